-- Want of memory is a stop.
use Rattle.std.proofs.Common.{ap, ◌≡◌, Ok, true, Err}
use Rattle.std.specs.Prelude.{IfErr, Result}
use Rattle.record_text.specs.declared.refusal.RefusalKind.{RefusalKind}
use Rattle.record_text.specs.declared.refusal.RefusalKind.TheVariants.{OutOfMemory}
use Rattle.archive_state.specs.Looks.{is_stop}

pub want_stops : {A : Type 0} (r : Result A RefusalKind) → IfErr r (λ kind. kind ≡ OutOfMemory)
    → IfErr r (λ kind. is_stop kind ≡ true)
want_stops (Ok a) want = tt
want_stops (Err kind) want = ap is_stop want
