-- A device is blamed only where it failed.
use Rattle.std.proofs.Common.{◌≡◌, ap, Ok, Err}
use Rattle.std.specs.Prelude.{IfErr, Result}
use Rattle.record_text.specs.declared.refusal.RefusalKind.{RefusalKind}
use Rattle.record_text.specs.declared.refusal.RefusalKind.TheVariants.{ReadFailed, WriteFailed}

pub blamed_by : {A : Type 0} (r : Result A RefusalKind) (Reader Writer : Type 0)
    → (r ≡ Err ReadFailed → Reader) → (r ≡ Err WriteFailed → Writer)
    → IfErr r (λ kind. (kind ≡ ReadFailed → Reader) × (kind ≡ WriteFailed → Writer))
blamed_by (Ok done) Reader Writer reads writes = tt
blamed_by (Err kind) Reader Writer reads writes = ((λ is. reads (ap Err is)), (λ is. writes (ap Err is)))
