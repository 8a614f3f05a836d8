-- Who stays right where one comes or goes.
use Rattle.std.proofs.Common.{◌≡◌, ◌∙◌, ℕ, Option, Some, None, sym, ap, subst, inl, inr}
use Rattle.std.specs.Prelude.{unwrap_or}
use Rattle.std.proofs.lemmas.Bool.{cases_eq}
use Rattle.slab.specs.Slab.{Slab, Updates, get}

module _ {T : Type 0} (P : T → Type 0) where
  abbrev All : Slab T → Type 0
  All s = (place : ℕ) (value : T) → get s place ≡ Some value → P value

  some_same : (a b : T) → Some a ≡ Some b → P a → P b
  some_same a b same has = subst P (ap (λ (o : Option T). unwrap_or o a) same) has

  pub comes : (old new : Slab T) (key : ℕ) (one : T) → All old → P one → Updates old new key (Some one) → All new
  comes old new key one all right updates place value is =
      elim (cases_eq place key) [
        | inl same ↦ some_same one value (sym updates.changed ∙ sym (ap (get new) same) ∙ is) right
        | inr differs ↦ all place value (sym (updates.others place differs) ∙ is)
      ]

  pub goes : (old new : Slab T) (key : ℕ) → All old → Updates old new key None → All new
  goes old new key all updates place value is =
      elim (cases_eq place key) [
        | inl same ↦ let never : None ≡ Some value = sym updates.changed ∙ sym (ap (get new) same) ∙ is in absurd (cc)
        | inr differs ↦ all place value (sym (updates.others place differs) ∙ is)
      ]
