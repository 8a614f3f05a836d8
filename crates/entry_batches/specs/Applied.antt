-- What code that decides a batch answers.
use Rattle.std.specs.Prelude.{◌≡◌, None, Result, IfOk}
use Rattle.record_text.specs.declared.refusal.Refusal.{Refusal}
use Rattle.archive_state.specs.Changes.{Changes}
use Rattle.archive_state.specs.Content.{Content}
use Rattle.archive_state.specs.Looks.{Agrees, is_stop}
use Rattle.command_checks.specs.Applied.{leaves}
use Rattle.entry_batches.specs.Placed.{Step}

-- what it leaves is right, or it is a stop; and no receipt is kept yet
abbrev pub PlansAt : Content → Result Changes Refusal → Step → Type 0
PlansAt c result right = Agrees (λ (e : Refusal). is_stop e.kind) (leaves c result) right
    × IfOk result (λ changes. changes.kept ≡ None)
