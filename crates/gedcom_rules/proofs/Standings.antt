-- What stands open after a line, as the code keeps it.
use Rattle.std.proofs.Common.{
  ◌≡◌,
  ℕ,
  zero,
  suc,
  ◌+◌,
  ◌-◌,
  ◌<◌,
  ◌≤◌,
  Bool,
  true,
  false,
  cond,
  eqb,
  ltb,
  ◌||◌,
  List,
  [],
  ◌∷◌,
  ◌++◌,
  length,
  length-append,
  take,
  refl,
  sym,
  ap,
  ◌∙◌,
  inl,
  inr,
  arith,
  Option,
  Some,
  None,
}
use Rattle.std.specs.Prelude.{option_map, slice_get}
use Rattle.std.proofs.lemmas.Bool.{eqb-true, ltb-true, ltb-false, cases_Bool}
use Rattle.std.proofs.lemmas.Option.{slice_get_past}
use Rattle.std.specs.Str.{bytes_eq}
use Rattle.gedcom_line.specs.Reading.{Parts, is_continuation}
use Rattle.gedcom_line.proofs.Steps.{eqb_no}
use Rattle.gedcom_rules.specs.declared.standing.Standing as code
use Rattle.gedcom_rules.specs.Rules.{Standing, standing}
use Rattle.gedcom_rules.specs.Judging.{continue_at, above_after}
use Rattle.gedcom_rules.specs.Views.{standing_view, standings}
use Rattle.list_laws.proofs.Bytes.{bytes_flip}

get_front : (xs : List code.Standing) (k n : ℕ) → n < k → slice_get (take k xs) n ≡ slice_get xs n
get_front xs zero n h = absurd (omega arith)
get_front [] (suc k) n h = refl
get_front (x ∷ xs) (suc k) zero h = refl
get_front (x ∷ xs) (suc k) (suc n) h = get_front xs k n (omega arith)

get_last : (xs : List code.Standing) (y : code.Standing) → slice_get (xs ++ y ∷ []) (length xs) ≡ Some y
get_last [] y = refl
get_last (x ∷ xs) y = get_last xs y

get_inside : (xs : List code.Standing) (y : code.Standing) (n : ℕ) → n < length xs
    → slice_get (xs ++ y ∷ []) n ≡ slice_get xs n
get_inside [] y n h = absurd (omega arith)
get_inside (x ∷ xs) y zero h = refl
get_inside (x ∷ xs) y (suc n) h = get_inside xs y n (omega arith)

same_option : (f : Standing → Standing) (o : Option Standing) → ((s : Standing) → f s ≡ s) → option_map f o ≡ o
same_option f None h = refl
same_option f (Some s) h = ap Some (h s)

-- a line that is no continuation leaves those above it as they are
pub kept_above : (l : Parts) (stack : List code.Standing) (n : ℕ) → is_continuation l.tag ≡ false
    → standings stack n ≡ option_map (continue_at n l) (standings stack n)
kept_above l stack n h = sym (same_option (continue_at n l) (standings stack n) (λ s. rw h refl))

-- the line itself is the last one then
pub stands : (l : Parts) (stack front kept new : List code.Standing) (own : code.Standing) → l.level ≤ length stack
    → front ≡ take l.level stack → length kept ≡ l.level
    → ((n : ℕ) → standings kept n ≡ option_map (continue_at n l) (standings front n)) → new ≡ kept ++ own ∷ []
    → standing_view own ≡ standing l [] → (n : ℕ) → standings new n ≡ above_after (standings stack) l n
stands l stack front kept new own le cut len above all view n = elim (cases_Bool (eqb l.level n)) [
  | inl e ↦
      let same : n ≡ length kept = sym (eqb-true l.level n e) ∙ sym len in
      rw e (ap (option_map standing_view) (ap (λ (x : List code.Standing). slice_get x n) all
      ∙ ap (slice_get (kept ++ own ∷ [])) same ∙ get_last kept own) ∙ ap Some view)
  | inr e ↦ elim (cases_Bool (ltb l.level n)) [
    | inl k ↦
        let past : length (kept ++ own ∷ []) ≤ n = omega (
          arith,
          length-append kept (own ∷ []),
          len,
          ltb-true l.level n k,
        ) in
        rw (e, k) (ap (option_map standing_view) (ap (λ (x : List code.Standing). slice_get x n) all
        ∙ slice_get_past (kept ++ own ∷ []) n past))
    | inr k ↦
        let other : l.level ≡ n → ⊥ = eqb_no l.level n e in
        let less : n < l.level = omega (arith, other, ltb-false l.level n k) in
        rw (e, k) (
        ap (option_map standing_view) (ap (λ (x : List code.Standing). slice_get x n) all
        ∙ get_inside kept own n (omega (arith, less, len)))
        ∙ above n
        ∙ ap (λ (o : Option code.Standing). option_map (continue_at n l) (option_map standing_view o))
        (ap (λ (x : List code.Standing). slice_get x n) cut ∙ get_front stack l.level n less))
  ]
]

pub named_more : (key name x : List ℕ) (v w : Bool) → key ≡ name → w ≡ cond (bytes_eq key x) true v
    → w ≡ (v || bytes_eq x name)
named_more key name x v w e h = h ∙ ap (λ (k : List ℕ). cond (bytes_eq k x) true v) e ∙ ap (λ (b : Bool). cond b true v)
    (bytes_flip name x) ∙ chosen (bytes_eq x name) v
  where
    chosen : (b v : Bool) → cond b true v ≡ (v || b)
    chosen true true = refl
    chosen true false = refl
    chosen false true = refl
    chosen false false = refl
