-- Steps whose refusals have a place. Rules of our own.
use Rattle.std.specs.Prelude.{ℕ, Option, Some, None, Result, Ok, Err, if◌then◌else◌}
use Rattle.record_text.specs.declared.refusal.Refusal.{Refusal}
use Rattle.record_text.specs.declared.refusal.RefusalKind.{RefusalKind}
use Rattle.archive_state.specs.Looks.{is_stop}
use Rattle.receipts.specs.declared.answer.Answer.{Answer}
use Rattle.archive_state.specs.Content.{Content}

-- what an accepted command leaves, and its answer; or its refusal, with the place of it
abbrev pub Step : Type 0
Step = Result (Content × Answer) Refusal

-- a refusal at a place: a row of a batch, a line of a file, or none
abbrev pub refused_at : Option ℕ → RefusalKind → Refusal
refused_at place kind = record { kind = kind; at = place }

-- the same, where what is refused is at that place
abbrev pub placed : {A : Type 0} → Option ℕ → Result A RefusalKind → Result A Refusal
placed place (Ok a) = Ok a
placed place (Err e) = Err (refused_at place e)

-- one step after another: the first refusal counts
abbrev pub onward : {A B : Type 0} → Result A Refusal → (A → Result B Refusal) → Result B Refusal
onward (Ok a) f = f a
onward (Err e) f = Err e

-- what is refused is at that place, but for a stop, which has none
abbrev pub placed_unless_stopped : {A : Type 0} → ℕ → Result A RefusalKind → Result A Refusal
placed_unless_stopped place (Ok a) = Ok a
placed_unless_stopped place (Err e) = Err (if is_stop e then refused_at None e else refused_at (Some place) e)
