-- A text that names a character set is written as it is read: it has no @.
use Rattle.std.proofs.Common.{
  ◌≡◌,
  ℕ,
  Bool,
  true,
  false,
  leb,
  not,
  ◌||◌,
  List,
  [],
  ◌∷◌,
  length,
  get_or,
  take,
  drop,
  map,
  refl,
  sym,
  ap,
  ◌∙◌,
  subst,
  inl,
  inr,
  None,
  codes,
}
use Rattle.std.specs.Char.{to_ascii_lowercase}
use Rattle.std.specs.List.{list_all, prefix_len}
use Rattle.std.specs.Str.{bytes_eq}
use Rattle.std.proofs.lemmas.Bool.{eqb-true, not-true, and_parts, or_cases, cases_Bool}
use Rattle.std.proofs.lemmas.List.{take-append-drop}
use Rattle.std.proofs.lemmas.List.Sums.{AllPass-from_list_all}
use Rattle.std.proofs.lemmas.Slice.Eq.{bytes_eq-Decides}
use Rattle.gedcom_line.specs.Words.{is_space, is_at}
use Rattle.gedcom_line.specs.Reading.{skip}
use Rattle.gedcom_line.specs.Escape.{NoAt, unescaped}
use Rattle.gedcom_line.specs.Value.{pointer_from, pointer_in}
use Rattle.gedcom_line.proofs.Steps.{eqb_no, all_front, spans_made, past_at}
use Rattle.gedcom_line.proofs.Doubled.{unescaped_all}
use Rattle.gedcom_rules.specs.Rules.{max_header_text, is_set, is_charset}
use Rattle.gedcom_line.proofs.Again.{all-append}
use Rattle.gedcom_line.proofs.Written.{all_parts}

abbrev lacks_at : List ℕ → Bool
lacks_at t = list_all (λ b. not (is_at b)) t

spaces_lack : (t : List ℕ) → list_all is_space t ≡ true → lacks_at t ≡ true
spaces_lack [] h = refl
spaces_lack (x ∷ xs) h =
    let r = and_parts (is_space x) (list_all is_space xs) h in
    let other : is_at x ≡ false = subst (λ (b : ℕ). is_at b ≡ false) (sym (eqb-true x 32 r.0)) refl in
    rw (other, spaces_lack xs r.1) refl

-- the lower case of an @ is an @
lower_at : (b : ℕ) → not (is_at (to_ascii_lowercase b)) ≡ true → not (is_at b) ≡ true
lower_at b h = elim (cases_Bool (is_at b)) [
  | inr e ↦ rw e refl
  | inl e ↦ absurd (let bad : not (is_at (to_ascii_lowercase 64)) ≡ true = subst
      (λ (x : ℕ). not (is_at (to_ascii_lowercase x)) ≡ true) (eqb-true b 64 e) h in cc)
]

lower_lacks : (t : List ℕ) → lacks_at (map to_ascii_lowercase t) ≡ true → lacks_at t ≡ true
lower_lacks [] h = refl
lower_lacks (x ∷ xs) h =
    let r = and_parts (not (is_at (to_ascii_lowercase x))) (lacks_at (map to_ascii_lowercase xs)) h in
    rw (lower_at x r.0, lower_lacks xs r.1) refl

set_lacks : (t name : List ℕ) → lacks_at (map to_ascii_lowercase name) ≡ true → is_set t name ≡ true → lacks_at t ≡ true
set_lacks t name n h =
    let u : List ℕ = skip is_space t in
    let r = and_parts (bytes_eq (map to_ascii_lowercase (take (length name) u)) (map to_ascii_lowercase name))
    (list_all is_space (drop (length name) u)) h in
    let same : map to_ascii_lowercase (take (length name) u) ≡ map to_ascii_lowercase
    name = (bytes_eq-Decides (map to_ascii_lowercase (take (length name) u)) (map to_ascii_lowercase name)).0 r.0 in
    let front : lacks_at (take (length name) u) ≡ true = lower_lacks (take (length name) u)
    (ap (λ (x : List ℕ). lacks_at x) same ∙ n) in
    let rest : lacks_at u ≡ true = ap (λ (x : List ℕ). lacks_at x) (sym (take-append-drop (length name) u))
    ∙ all-append (λ b. not (is_at b)) (take (length name) u) (drop (length name) u) front
    (spaces_lack (drop (length name) u) r.1) in
    let spaces : lacks_at (take (prefix_len is_space t) t) ≡ true = spaces_lack (take (prefix_len is_space t) t)
    (all_front is_space t) in
    ap (λ (x : List ℕ). lacks_at x) (spans_made is_space t).parts ∙ all-append (λ b. not (is_at b))
    (take (prefix_len is_space t) t) u spaces rest

charset_lacks : (t : List ℕ) → is_charset t ≡ true → lacks_at t ≡ true
charset_lacks t h =
    let r = and_parts (leb (length t) max_header_text)
    (is_set t (codes "UTF-8") || is_set t (codes "UTF8") || is_set t (codes "ASCII")) h in
    elim (or_cases (is_set t (codes "UTF-8") || is_set t (codes "UTF8")) (is_set t (codes "ASCII")) r.1) [
      | inr e ↦ set_lacks t (codes "ASCII") refl e
      | inl e ↦ elim (or_cases (is_set t (codes "UTF-8")) (is_set t (codes "UTF8")) e) [
        | inl k ↦ set_lacks t (codes "UTF-8") refl k
        | inr k ↦ set_lacks t (codes "UTF8") refl k
      ]
    ]

no_at_of : (t : List ℕ) → lacks_at t ≡ true → NoAt t
no_at_of t h = λ i lt e. eqb_no (get_or t i 0) 64 (not-true _ (AllPass-from_list_all (λ b. not (is_at b)) t h i 0 lt)) e

pub charset_unescaped : (t : List ℕ) → is_charset t ≡ true → unescaped t ≡ t
charset_unescaped t h = unescaped_all t (no_at_of t (charset_lacks t h))

no_pointer_from : (t : List ℕ) → lacks_at t ≡ true → pointer_from t ≡ None
no_pointer_from t h = elim (past_at t) [
  | inl k ↦ rw k.0 refl
  | inr k ↦ absurd (let bad : lacks_at (64 ∷ k.0) ≡ true = ap (λ (x : List ℕ). lacks_at x) (sym k.1.1) ∙ h in cc)
]

pub charset_no_pointer : (t : List ℕ) → is_charset t ≡ true → pointer_in t ≡ None
unfolding pointer_in
charset_no_pointer t h = no_pointer_from (skip is_space t)
    ((all_parts (λ b. not (is_at b)) (take (prefix_len is_space t) t) (skip is_space t)
    (ap (λ (x : List ℕ). lacks_at x) (sym (spans_made is_space t).parts) ∙ charset_lacks t h)).1)
