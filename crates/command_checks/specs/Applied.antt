-- What decided changes leave, and what code that decides them answers.
use Rattle.std.specs.Prelude.{◌≡◌, None, Result, Ok, Err, IfOk}
use Rattle.record_text.specs.declared.refusal.RefusalKind.{RefusalKind}
use Rattle.archive_state.specs.Applied.{applied}
use Rattle.archive_state.specs.Changes.{Changes}
use Rattle.archive_state.specs.Content.{Content}
use Rattle.archive_state.specs.Looks.{Agrees, is_stop}
use Rattle.receipts.specs.declared.answer.Answer.{Answer}

-- what changes leave when they are made, and their answer; or the refusal
abbrev pub leaves : {E : Type 0} → Content → Result Changes E → Result (Content × Answer) E
leaves c (Ok changes) = Ok (applied c changes, changes.answer)
leaves c (Err e) = Err e

-- code that decides a command: what it leaves is right, or it is a stop; and no receipt is kept yet
abbrev pub Plans : Content → Result Changes RefusalKind → Result (Content × Answer) RefusalKind → Type 0
Plans c result right = Agrees is_stop (leaves c result) right × IfOk result (λ changes. changes.kept ≡ None)
