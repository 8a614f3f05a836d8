-- The last day of a date.
use Rattle.std.proofs.Common.{◌≡◌, ◌↔◌, Bool, true, false, refl, sym, ◌∙◌, subst, T}
use Rattle.std.specs.Prelude.{Option, Some, None, ℤ, ◌≤ℤ◌}
use Rattle.std.specs.Bool.{IsTrue}
use Rattle.std.specs.Int.Signed.{le_z, le_z_yes}
use Rattle.calendar_days.specs.Bounds.{IsGreatest}
use Rattle.gedcom_date.specs.Form.{Form}
use Rattle.gedcom_date.specs.Days.{IsDayOf}
use Rattle.record_fields.specs.Dated.{one_said}
use Rattle.record_fields.specs.declared.date.Date.{Date}
use Rattle.masking.specs.Life.{HasEnded, IsLastDay}
use Rattle.list_laws.proofs.Numbers.{not_both, through}

module _ (date : Date) (day : ℤ) where
  greatest_too : (a b : Option ℤ) (x : IsLastDay date a) → IsLastDay date b → IsGreatest (IsDayOf x.0) b
  greatest_too a b x y = subst (λ (f : Form). IsGreatest (IsDayOf f) b) (one_said date.text y.0 x.0 y.1 x.1) y.2

  -- a date without a last day has not ended
  pub not_ended : IsLastDay date None → HasEnded date day → ⊥
  not_ended none (last, known, le) =
      let most = greatest_too None (Some last) none known in
      let above = none.2 last in
      not_both last above.0 above.2 (most.1 above.0 above.1)

  pub ended_by : (last : ℤ) → IsLastDay date (Some last) → (last ≤ℤ day) ↔ HasEnded date day
  ended_by last is = (
    λ le. (last, is, le),
    λ (other, known, le). through last other day
        ((greatest_too (Some last) (Some other) is known).1 last is.2.0) le,
  )

-- the test of two days
test_true : (b : Bool) → T b → IsTrue b
test_true true t = refl
test_true false t = absurd t

true_test : (b : Bool) → IsTrue b → T b
true_test true e = tt
true_test false e = absurd cc

tested : (a b : ℤ) → IsTrue (le_z a b) ↔ (a ≤ℤ b)
tested a b = (λ e. le_z_yes (true_test (le_z a b) e), λ h. test_true (le_z a b) h.le)

-- the same of days as they are passed
pub tested_by : (date : Date) (day last x y : ℤ) → x ≡ last → y ≡ day → IsLastDay date (Some last)
    → IsTrue (le_z x y) ↔ HasEnded date day
tested_by date day last x y a b is =
    let same : le_z x y ≡ le_z last day = λ i. le_z (a i) (b i) in
    let by = tested last day in
    let ended = ended_by date day last is in
    (λ e. ended.0 (by.0 (sym same ∙ e)), λ h. same ∙ by.1 (ended.1 h))
