-- A look that is refused: nothing has changed.
use Rattle.std.proofs.Common.{List, ◌≡◌, Ok, ℕ, Err, inl}
use Rattle.std.specs.Prelude.{IfErr, Result}
use Rattle.store_tables.specs.Looking.{IsFailure}
use Rattle.archive_output.proofs.Asked.{follows}
use Rattle.archive_state.specs.Content.{Content}
use Rattle.sqlite.specs.State.{State}
use Rattle.record_text.specs.declared.refusal.RefusalKind.{RefusalKind}
use Rattle.record_text.specs.declared.refusal.RefusalKind.TheVariants.{OutOfMemory}
use Rattle.archive_output.specs.Reading.{OnOpen}

pub want_fails : {A : Type 0} (r : Result A RefusalKind) (old new : State) (P : List ℕ → Content → Type 0)
    → OnOpen old new P → IfErr r (λ kind. kind ≡ OutOfMemory)
    → IfErr r (λ kind. OnOpen old new (λ _ _. IsFailure kind))
want_fails (Ok a) old new P open_ want = tt
want_fails (Err kind) old new P open_ want = follows old new P (λ _ _. IsFailure kind) (λ _ _ _. inl want) open_
