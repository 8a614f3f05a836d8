-- What a correction of a record is refused with by the record itself is no failure of a look.
use Rattle.std.proofs.Common.{◌≡◌, true, false, refl, sym, ◌∙◌, subst}
use Rattle.std.specs.Prelude.{IfErr, Result, Ok, Err}
use Rattle.record_text.specs.declared.refusal.RefusalKind.{RefusalKind}
use Rattle.record_text.specs.declared.refusal.RefusalKind.TheVariants.{NoSuchField, BadText, NotOfKind}
use Rattle.record_kinds.specs.declared.record.Record.{Record}
use Rattle.archive_state.specs.Looks.{is_failure}
use Rattle.corrections.specs.Corrections.{corrected}
use Rattle.corrections.specs.Laws.{is_own}
use Rattle.corrections.specs.declared.correction.Correction.{Correction}
use Rattle.corrections.proofs.Outcomes.{refuses_itself}

own_is_none : (e : RefusalKind) → is_own e ≡ true → is_failure e ≡ false
own_is_none NoSuchField h = refl
own_is_none BadText h = refl
own_is_none NotOfKind h = refl
own_is_none _ h = absurd cc

err_is_none : (o : Result Record RefusalKind) → IfErr o (λ e. is_own e ≡ true) → IfErr o (λ e. is_failure e ≡ false)
err_is_none (Ok s) h = tt
err_is_none (Err e) h = own_is_none e h

pub no_failure : (c : Correction) (r : Record) (o : Result Record RefusalKind) (e : RefusalKind) → o ≡ corrected c r
    → o ≡ Err e → is_failure e ≡ false
no_failure c r o e same is =
    subst (λ x. IfErr x (λ k. is_failure k ≡ false)) (sym same ∙ is) (err_is_none (corrected c r) (refuses_itself r c))
