-- The values that name the character set and the version have one line each, and are read again as they are.
use Rattle.std.proofs.Common.{
  ◌≡◌,
  ◌≢◌,
  ℕ,
  ◌<◌,
  ◌≤◌,
  Bool,
  true,
  false,
  eqb,
  leb,
  not,
  ◌||◌,
  List,
  [],
  ◌∷◌,
  length,
  get_or,
  map,
  take,
  drop,
  refl,
  sym,
  ap,
  ◌∙◌,
  inl,
  inr,
  arith,
  codes,
}
use Rattle.std.specs.Char.{to_ascii_lowercase}
use Rattle.std.specs.List.{list_all, list_any, prefix_len}
use Rattle.std.specs.Str.{bytes_eq}
use Rattle.std.proofs.lemmas.Bool.{leb-true, le-leb, not-true, and_parts, or_parts, or_cases}
use Rattle.std.proofs.lemmas.Bool.Decides.{nat_tests}
use Rattle.std.proofs.lemmas.List.{take-append-drop}
use Rattle.std.proofs.lemmas.List.Sums.{AllPass-from_list_all}
use Rattle.std.proofs.lemmas.Slice.Eq.{bytes_eq-Decides}
use Rattle.gedcom_line.specs.Escape.{escaped}
use Rattle.gedcom_line.specs.Reading.{skip}
use Rattle.gedcom_line.specs.Words.{is_space}
use Rattle.gedcom_line.specs.Split.{char_count, IsShort, canonical, marked}
use Rattle.gedcom_line.specs.Value.{Meaning, Text, Pointer, meaning}
use Rattle.gedcom_line.specs.declared.splitting.Mark.TheVariants.{Cont}
use Rattle.gedcom_line.proofs.Steps.{eqb_no, all_front}
use Rattle.gedcom_line.proofs.Again.{all-append}
use Rattle.gedcom_line.proofs.Counts.{char_count-le-length}
use Rattle.gedcom_line.proofs.Cuts.{canonical_last, segment_short}
use Rattle.gedcom_line.proofs.Doubled.{escaped_all, unescaped-escaped}
use Rattle.gedcom_line.proofs.Pointers.{escaped_no_pointer, pointer_meant}
use Rattle.gedcom_tree.specs.Forest.{own_raw, more_parts}
use Rattle.gedcom_rules.specs.Rules.{is_set, is_charset, is_version, is_version_value, max_header_text}
use Rattle.gedcom_tree.specs.Text.{IsNodeValue, is_charset_node, is_version_node}
use Rattle.gedcom_tree.proofs.Numbered.{marked_pointer}
use Rattle.gedcom_line.proofs.Fronts.{escaped_chars}

-- a text of one part
each_not : (c : ℕ) (t : List ℕ) → list_all (λ b. not (eqb b c)) t ≡ true → (i : ℕ) → i < length t → get_or t i 0 ≢ c
each_not c t h i lt e = eqb_no (get_or t i 0) c (not-true _ (AllPass-from_list_all (λ b. not (eqb b c)) t h i 0 lt)) e

one_part : (t : List ℕ) → list_all (λ b. not (eqb b 10)) t ≡ true → IsShort t
    → canonical t ≡ record { mark = Cont; text = t } ∷ []
one_part t h s = canonical_last t (each_not 10 t h) ∙ ap (marked Cont)
    (segment_short t (le-leb (char_count (escaped t)) 200 s))

-- a text that names a character set has no @ and no LF
lower_all : (p : ℕ → Bool) → ((b : ℕ) → p (to_ascii_lowercase b) ≡ true → p b ≡ true) → (t : List ℕ)
    → list_all p (map to_ascii_lowercase t) ≡ true → list_all p t ≡ true
lower_all p f [] h = refl
lower_all p f (b ∷ bs) h =
    let r = and_parts (p (to_ascii_lowercase b)) (list_all p (map to_ascii_lowercase bs)) h in
    rw (f b r.0, lower_all p f bs r.1) refl

space_all : (p : ℕ → Bool) → ((b : ℕ) → is_space b ≡ true → p b ≡ true) → (t : List ℕ) → list_all is_space t ≡ true
    → list_all p t ≡ true
space_all p f [] h = refl
space_all p f (b ∷ bs) h =
    let r = and_parts (is_space b) (list_all is_space bs) h in
    rw (f b r.0, space_all p f bs r.1) refl

set_all : (p : ℕ → Bool) → ((b : ℕ) → is_space b ≡ true → p b ≡ true)
    → ((b : ℕ) → p (to_ascii_lowercase b) ≡ true → p b ≡ true) → (t name : List ℕ)
    → list_all p (map to_ascii_lowercase name) ≡ true → is_set t name ≡ true → list_all p t ≡ true
set_all p f g t name n h =
    let s : List ℕ = skip is_space t in
    let k : ℕ = length name in
    let r = and_parts (bytes_eq (map to_ascii_lowercase (take k s)) (map to_ascii_lowercase name))
    (list_all is_space (drop k s)) h in
    let same : map to_ascii_lowercase (take k s) ≡ map to_ascii_lowercase
    name = (bytes_eq-Decides (map to_ascii_lowercase (take k s)) (map to_ascii_lowercase name)).0 r.0 in
    let mid : list_all p (take k s) ≡ true = lower_all p g (take k s) (ap (list_all p) same ∙ n) in
    let back : list_all p s ≡ true = ap (list_all p) (sym (take-append-drop k s)) ∙ all-append p (take k s)
    (drop k s) mid (space_all p f (drop k s) r.1) in
    ap (list_all p) (sym (take-append-drop (prefix_len is_space t) t)) ∙ all-append p (take (prefix_len is_space t) t) s
    (space_all p f (take (prefix_len is_space t) t) (all_front is_space t)) back

charset_all : (p : ℕ → Bool) → ((b : ℕ) → is_space b ≡ true → p b ≡ true)
    → ((b : ℕ) → p (to_ascii_lowercase b) ≡ true → p b ≡ true) → list_all p (map to_ascii_lowercase (codes "UTF-8"))
    ≡ true → list_all p (map to_ascii_lowercase (codes "UTF8")) ≡ true
    → list_all p (map to_ascii_lowercase (codes "ASCII")) ≡ true → (t : List ℕ) → is_charset t ≡ true
    → list_all p t ≡ true
charset_all p f g a b c t h =
    let r = and_parts (leb (length t) max_header_text) _ h in
    elim (or_cases (is_set t (codes "UTF-8") || is_set t (codes "UTF8")) (is_set t (codes "ASCII")) r.1) [
      | inr e ↦ set_all p f g t (codes "ASCII") c e
      | inl e ↦ elim (or_cases (is_set t (codes "UTF-8")) (is_set t (codes "UTF8")) e) [
        | inl k ↦ set_all p f g t (codes "UTF-8") a k
        | inr k ↦ set_all p f g t (codes "UTF8") b k
      ]
    ]

space_not_at : (b : ℕ) → is_space b ≡ true → not (eqb b 64) ≡ true
space_not_at b h = grind (arith, nat_tests)

space_not_lf : (b : ℕ) → is_space b ≡ true → not (eqb b 10) ≡ true
space_not_lf b h = grind (arith, nat_tests)

lower_not_at : (b : ℕ) → not (eqb (to_ascii_lowercase b) 64) ≡ true → not (eqb b 64) ≡ true
lower_not_at b h = grind (arith, nat_tests)

lower_not_lf : (b : ℕ) → not (eqb (to_ascii_lowercase b) 10) ≡ true → not (eqb b 10) ≡ true
lower_not_lf b h = grind (arith, nat_tests)

charset_plain : (t : List ℕ) → is_charset t ≡ true → escaped t ≡ t
charset_plain t h = escaped_all false t
    (each_not 64 t (charset_all (λ b. not (eqb b 64)) space_not_at lower_not_at refl refl refl t h))

charset_short : (t : List ℕ) → is_charset t ≡ true → IsShort t
charset_short t h =
    let r = and_parts (leb (length t) max_header_text) _ h in
    let few : char_count (escaped t) ≤ length t = rw (charset_plain t h) (char_count-le-length t) in
    omega (arith, few, leb-true (length t) max_header_text r.0)

charset_one : (t : List ℕ) → is_charset t ≡ true → canonical t ≡ record { mark = Cont; text = t } ∷ []
charset_one t h = one_part t (charset_all (λ b. not (eqb b 10)) space_not_lf lower_not_lf refl refl refl t h)
    (charset_short t h)

-- the value of a node that names the character set
pub record OneLine (Reads : List ℕ → Type 0) (v : Meaning) : Type 0 where
  pub reads : Reads (own_raw v)
  pub alone : more_parts v ≡ []

pub charset_again : (v : Meaning) → is_charset_node v ≡ true → OneLine (λ raw. is_charset raw ≡ true) v
charset_again (Text t) h = record {
  reads = rw (charset_one t h, charset_plain t h) h;
  alone = rw (charset_one t h) refl;
}
charset_again (Pointer p) h = absurd cc

none_all : (t : List ℕ) → list_any (λ b. eqb b 10) t ≡ false → list_all (λ b. not (eqb b 10)) t ≡ true
none_all [] h = refl
none_all (b ∷ bs) h =
    let n = or_parts (eqb b 10) (list_any (λ x. eqb x 10) bs) h in
    rw (n.0, none_all bs n.1) refl

version_one : (t : List ℕ) → is_version t ≡ true → list_any (λ b. eqb b 10) t ≡ false
    → canonical t ≡ record { mark = Cont; text = t } ∷ []
version_one t h n =
    let r = and_parts _ (leb (char_count t) max_header_text) h in
    one_part t (none_all t n) (omega (arith, escaped_chars false t, leb-true (char_count t) max_header_text r.1))

pub version_again : (v : Meaning) → IsNodeValue v → is_version_node v ≡ true
    → OneLine (λ raw. is_version_value (meaning raw) ≡ true) v
version_again (Text t) w h =
    let r = and_parts (is_version t) (not (list_any (λ b. eqb b 10) t)) h in
    let one : canonical t ≡ record { mark = Cont; text = t } ∷ [] = version_one t r.0 (not-true _ r.1) in
    record { reads = rw (one, escaped_no_pointer t, unescaped-escaped t) r.0; alone = rw one refl }
version_again (Pointer p) w h = record { reads = rw (pointer_meant p p (marked_pointer p w)) refl; alone = refl }
