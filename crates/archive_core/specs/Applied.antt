-- What code that decides a request answers.
use Rattle.std.specs.Prelude.{Result}
use Rattle.record_text.specs.declared.refusal.Refusal.{Refusal}
use Rattle.archive_state.specs.Changes.{Changes}
use Rattle.archive_state.specs.Content.{Content}
use Rattle.archive_state.specs.Looks.{Agrees, is_stop}
use Rattle.receipts.specs.declared.answer.Answer.{Answer}
use Rattle.command_checks.specs.Applied.{leaves}

-- code that decides a request: what it leaves is right, or it is a stop
abbrev pub Decides : Content → Result Changes Refusal → Result (Content × Answer) Refusal → Type 0
Decides c result right = Agrees (λ e. is_stop e.kind) (leaves c result) right
