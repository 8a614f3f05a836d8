-- The parts of a text, as they are written, hold no U+0000, LF or CR, and are UTF-8.
use Rattle.std.proofs.Common.{
  ◌≡◌,
  ℕ,
  zero,
  suc,
  ◌+◌,
  ◌<◌,
  ◌≤◌,
  Bool,
  true,
  false,
  not,
  List,
  [],
  ◌∷◌,
  ◌++◌,
  length,
  get_or,
  take,
  drop,
  refl,
  sym,
  ap,
  ◌∙◌,
  subst,
  inl,
  inr,
  arith,
  length-drop,
}
use Rattle.std.specs.Char.{encode_utf8, IsScalar}
use lib.Utf8.{scalar}
use Rattle.std.specs.List.{list_all, position_or_len}
use Rattle.std.specs.Str.{IsUtf8, encode_utf8_all, all_scalars}
use Rattle.std.proofs.lemmas.Bool.{eqb-true, cases_eq, cases_lt, not-true, not-false, and_parts, cases_Bool}
use Rattle.std.proofs.lemmas.Bool.Decides.{nat_tests}
use Rattle.std.proofs.lemmas.List.{append-nil, take_all}
use Rattle.std.proofs.lemmas.List.Sums.{split_at_first, prefix_len_stops, AllPass-from_list_all}
use Rattle.std.proofs.lemmas.Str.{
  IsUtf8-append,
  IsUtf8-nil,
  IsUtf8-encode,
  IsUtf8-take,
  IsUtf8-drop,
  inside_one,
  encode_ascii,
  IsCharBoundary-before_ascii,
  IsCharBoundary-after_ascii,
  IsUtf8-from_ascii,
}
use Rattle.std.proofs.lemmas.Str.Ascii.{IsAscii-cons, IsAscii-nil}
use Rattle.gedcom_line.specs.Escape.{NoAt, escaped_from, escaped}
use Rattle.gedcom_line.specs.Split.{
  EachPart,
  is_short,
  cut_len,
  parts_by,
  segment_parts,
  Part,
  marked,
  canonical,
  is_lf,
  NoLf,
}
use Rattle.gedcom_line.specs.Spelling.{is_inner, is_textual, IsInner}
use Rattle.gedcom_line.specs.declared.splitting.Mark.{Mark}
use Rattle.gedcom_line.specs.declared.splitting.Mark.TheVariants.{Conc, Cont}
use Rattle.gedcom_line.proofs.Steps.{eqb_no, all_front}
use Rattle.gedcom_line.proofs.Doubled.{escaped_skip}
use Rattle.gedcom_line.proofs.Counts.{escaped_step}
use Rattle.gedcom_line.proofs.Written.{all_parts}
use Rattle.gedcom_line.proofs.Cuts.{cut_may_be, canonical_step, canonical_last}

-- one character more is UTF-8 still
at_utf8 : (t : List ℕ) → IsUtf8 t → IsUtf8 (64 ∷ t)
at_utf8 t u = IsUtf8-append (64 ∷ []) t (IsUtf8-from_ascii (64 ∷ []) (IsAscii-cons 64 [] (omega arith) IsAscii-nil)) u

step_utf8 : (i : Bool) (cs : List ℕ) → ((j : Bool) → IsUtf8 (escaped_from j cs)) → IsUtf8 (escaped_from i (64 ∷ cs))
step_utf8 i cs h = elim (escaped_step i 64 cs) [
  | inl s ↦ rw s.1 (at_utf8 (escaped_from s.0 cs) (h s.0))
  | inr s ↦ rw s (at_utf8 (64 ∷ escaped_from false cs) (at_utf8 (escaped_from false cs) (h false)))
]

pub char_no_at : (c : ℕ) → (c ≡ 64 → ⊥) → NoAt (encode_utf8 c)
char_no_at c h = λ i lt e. h (inside_one c [] (encode_utf8 c) i (sym (append-nil (encode_utf8 c))) lt
    (omega (arith, e)) ∙ e)

chars_utf8 : (cs : List ℕ) (i : Bool) → all_scalars cs ≡ true → IsUtf8 (escaped_from i (encode_utf8_all cs))
chars_utf8 [] i h = IsUtf8-nil
chars_utf8 (c ∷ cs) i h =
    let rest : List ℕ = encode_utf8_all cs in
    let r : IsScalar c × (all_scalars cs ≡ true) = and_parts (scalar c) (all_scalars cs) h in
    elim (cases_eq c 64) [
      | inl e ↦
          let one : encode_utf8 c ++ rest ≡ 64 ∷ rest = ap (λ (x : ℕ). encode_utf8 x ++ rest) e
          ∙ rw (encode_ascii 64 (omega arith)) refl in
          rw one (step_utf8 i rest (λ j. chars_utf8 cs j r.1))
      | inr n ↦ rw (escaped_skip i (encode_utf8 c) rest (char_no_at c n))
          (IsUtf8-append (encode_utf8 c) (escaped_from i rest) (IsUtf8-encode c r.0) (chars_utf8 cs i r.1))
    ]

escaped_each : (p : ℕ → Bool) (i : Bool) (t : List ℕ) → list_all p t ≡ true → list_all p (escaped_from i t) ≡ true
escaped_each p i [] h = refl
escaped_each p i (c ∷ cs) h =
    let r = and_parts (p c) (list_all p cs) h in
    elim (escaped_step i c cs) [
      | inl s ↦ rw (s.1, r.0) (escaped_each p s.0 cs r.1)
      | inr s ↦ rw (s, r.0) (escaped_each p false cs r.1)
    ]

pub escaped_inner : (t : List ℕ) → IsInner t → IsInner (escaped t)
escaped_inner t h = record {
  utf8 = subst (λ (x : List ℕ). IsUtf8 (escaped x)) h.utf8.1.1
      (chars_utf8 h.utf8.0 false h.utf8.1.0);
  each = escaped_each is_inner false t h.each;
}

-- fronts and rests
all-take : (p : ℕ → Bool) (n : ℕ) (t : List ℕ) → list_all p t ≡ true → list_all p (take n t) ≡ true
all-take p zero t h = refl
all-take p (suc n) [] h = refl
all-take p (suc n) (x ∷ xs) h =
    let r = and_parts (p x) (list_all p xs) h in
    rw (r.0, all-take p n xs r.1) refl

all-drop : (p : ℕ → Bool) (n : ℕ) (t : List ℕ) → list_all p t ≡ true → list_all p (drop n t) ≡ true
all-drop p zero t h = h
all-drop p (suc n) [] h = refl
all-drop p (suc n) (x ∷ xs) h =
    let r = and_parts (p x) (list_all p xs) h in
    all-drop p n xs r.1

-- each part of a list of parts
abbrev pub Each : (List ℕ → Type 0) → List (List ℕ) → Type 0
Each P [] = Unit {0}
Each P (x ∷ xs) = P x × Each P xs

pub each_marked : (P : List ℕ → Type 0) (m : Mark) (ps : List (List ℕ)) → Each P ps → EachPart P (marked m ps)
each_marked P m [] h = tt
each_marked P m (p ∷ ps) h = (h.0, each_marked P Conc ps h.1)

pub each-append : (P : List ℕ → Type 0) (a b : List Part) → EachPart P a → EachPart P b → EachPart P (a ++ b)
each-append P [] b h k = k
each-append P (x ∷ xs) b h k = (h.0, each-append P xs b h.1 k)

parts_inner : (n : ℕ) (s : List ℕ) → IsInner s → Each IsInner (parts_by n s)
unfolding parts_by
parts_inner zero s h = (h, tt)
parts_inner (suc n) s h = elim (cases_Bool (is_short s)) [
  | inl e ↦ rw e (h, tt)
  | inr e ↦
      let m = (cut_may_be s h.utf8 e).whole in
      let front : IsInner (take (cut_len s) s) = record {
        utf8 = IsUtf8-take s (cut_len s) h.utf8 m;
        each = all-take is_inner (cut_len s) s h.each;
      } in
      let rest : IsInner (drop (cut_len s) s) = record {
        utf8 = IsUtf8-drop s (cut_len s) h.utf8 m;
        each = all-drop is_inner (cut_len s) s h.each;
      } in
      rw e (front, parts_inner n (drop (cut_len s) s) rest)
]

segment_inner : (s : List ℕ) → IsInner s → EachPart IsInner (marked Cont (segment_parts s))
unfolding segment_parts
segment_inner s h = each_marked IsInner Cont (parts_by (length s) s) (parts_inner (length s) s h)

inner_char : (b : ℕ) → is_textual b ≡ true → is_lf b ≡ false → is_inner b ≡ true
inner_char b h k = grind (arith, nat_tests)

inner_all : (t : List ℕ) → list_all is_textual t ≡ true → list_all (λ b. not (is_lf b)) t ≡ true
    → list_all is_inner t ≡ true
inner_all [] h k = refl
inner_all (x ∷ xs) h k =
    let r = and_parts (is_textual x) (list_all is_textual xs) h in
    let s = and_parts (not (is_lf x)) (list_all (λ b. not (is_lf b)) xs) k in
    rw (inner_char x r.0 (not-true (is_lf x) s.0), inner_all xs r.1 s.1) refl

pub no_lf_of : (t : List ℕ) → list_all (λ b. not (is_lf b)) t ≡ true → NoLf t
no_lf_of t h = λ i lt e. eqb_no (get_or t i 0) 10 (not-true _ (AllPass-from_list_all (λ b. not (is_lf b)) t h i 0 lt)) e

-- a text without LF
pub last_none : (t : List ℕ) → length t ≤ position_or_len is_lf t → list_all (λ b. not (is_lf b)) t ≡ true
last_none t ge = subst (λ (x : List ℕ). list_all (λ b. not (is_lf b)) x ≡ true)
    (take_all (position_or_len is_lf t) t ge) (all_front (λ b. not (is_lf b)) t)

-- what stands at the first LF and round it
pub record LfCut (t : List ℕ) : Type 0 where
  pub front : List ℕ
  pub rest : List ℕ
  pub parts : t ≡ front ++ 10 ∷ rest
  pub none : list_all (λ b. not (is_lf b)) front ≡ true
  pub front_utf8 : IsUtf8 front
  pub rest_utf8 : IsUtf8 rest
  pub shorter : length rest < length t

pub lf_cut : (t : List ℕ) → IsUtf8 t → position_or_len is_lf t < length t → LfCut t
lf_cut t u lt =
    let n : ℕ = position_or_len is_lf t in
    let lf : get_or t n 0 ≡ 10 = eqb-true (get_or t n 0) 10
    (not-false _ (prefix_len_stops (λ x. not (is_lf x)) t 0 lt)) in
    record {
      front = take n t;
      rest = drop (n + 1) t;
      parts = split_at_first is_lf t 0 lt ∙ ap (λ (x : ℕ). take n t ++ x ∷ drop (n + 1) t) lf;
      none = all_front (λ b. not (is_lf b)) t;
      front_utf8 = IsUtf8-take t n u (IsCharBoundary-before_ascii t n lt (omega (arith, lf)));
      rest_utf8 = IsUtf8-drop t (n + 1) u (IsCharBoundary-after_ascii t n u lt (omega (arith, lf)));
      shorter = omega (arith, length-drop (n + 1) t);
    }

last_inner : (t : List ℕ) → IsUtf8 t → list_all is_textual t ≡ true → length t ≤ position_or_len is_lf t
    → EachPart IsInner (canonical t)
last_inner t u h ge =
    let none : list_all (λ b. not (is_lf b)) t ≡ true = last_none t ge in
    rw (canonical_last t (no_lf_of t none)) (segment_inner t (record { utf8 = u; each = inner_all t h none }))

pub canonical_inner : (n : ℕ) (t : List ℕ) → IsUtf8 t → list_all is_textual t ≡ true → length t ≤ n
    → EachPart IsInner (canonical t)
canonical_inner zero t u h le = elim (cases_lt (position_or_len is_lf t) (length t)) [
  | inr ge ↦ last_inner t u h ge
  | inl lt ↦ absurd (omega arith)
]
canonical_inner (suc n) t u h le = elim (cases_lt (position_or_len is_lf t) (length t)) [
  | inr ge ↦ last_inner t u h ge
  | inl lt ↦
      let c = lf_cut t u lt in
      let parts : list_all is_textual (c.front ++ 10 ∷ c.rest) ≡ true = ap (list_all is_textual) (sym c.parts) ∙ h in
      let front : IsInner c.front = record {
        utf8 = c.front_utf8;
        each = inner_all c.front (all_parts is_textual c.front (10 ∷ c.rest) parts).0 c.none;
      } in
      rw (canonical_step t c.front c.rest c.parts (no_lf_of c.front c.none))
      (each-append IsInner (marked Cont (segment_parts c.front)) (canonical c.rest) (segment_inner c.front front)
      (canonical_inner n c.rest c.rest_utf8 (all_parts is_textual c.front (10 ∷ c.rest) parts).1
      (omega (arith, c.shorter))))
]
