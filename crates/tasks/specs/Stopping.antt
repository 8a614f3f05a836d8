-- Rows that end at the first that is refused: the outcome of that; and of what is said already the status. Rules of our
-- own.
use Rattle.std.specs.Prelude.{
  ◌≡◌,
  ℕ,
  Bool,
  true,
  false,
  List,
  Option,
  None,
  Some,
  Result,
  Ok,
  Err,
  MatchBool,
  is_some,
}
use Rattle.record_text.specs.declared.refusal.Refusal.{Refusal}
use Rattle.record_text.specs.declared.refusal.RefusalKind.{RefusalKind}
use Rattle.record_text.specs.declared.refusal.RefusalKind.TheVariants.{BadRow}
use Rattle.record_text.specs.declared.refusal.Unit.TheVariants as unit
use Rattle.tasks.specs.Status.{Finishes, Outcome, placeless_text}
use Rattle.tasks.specs.declared.stopping.Reporting.{Reporting}
use Rattle.tasks.specs.declared.stopping.Reporting.TheVariants.{Nothing, Row, Table}
use Rattle.tasks.specs.declared.task.Task.{Task}
use Rattle.tasks.specs.declared.task.Task.TheVariants as task

-- all rows were served; or they ended at one that was refused, with its number; or there was an early end
abbrev pub Stopping : Type 0
Stopping = Result (Option Refusal) RefusalKind

abbrev pub as_stopped : Stopping → Outcome
as_stopped (Ok None) = Ok tt
as_stopped (Ok (Some e)) = Err (record { refusal = e; unit = unit.Row })
as_stopped (Err kind) = Err (placeless_text kind)

-- a task ends at a row that is refused, of which the faults have a line beside its answer; and of a table that is
-- checked there are lines for all that is wrong with its rows, or why it is none, and of one that is entered for its
-- first fault
abbrev pub reporting_of : Task → Reporting
reporting_of task.ApplyUntilRefused = Row
reporting_of (task.ApplyAsExpected expected stops) = Row
reporting_of (task.CheckTable source form) = Table
reporting_of (task.EnterTable token source form) = Table
reporting_of _ = Nothing

abbrev pub names_row : Outcome → Bool
names_row (Ok done) = false
names_row (Err t) = is_some t.refusal.at

abbrev pub is_bad_row : RefusalKind → Bool
is_bad_row BadRow = true
is_bad_row _ = false

abbrev pub has_bad_rows : Outcome → Bool
has_bad_rows (Ok done) = false
has_bad_rows (Err t) = is_bad_row t.refusal.kind

-- why it was refused is said already
abbrev pub is_said : Reporting → Outcome → Bool
is_said Row outcome = names_row outcome
is_said Table outcome = has_bad_rows outcome
is_said Nothing outcome = false

-- how a task finishes. After such lines nothing more is said: 1
abbrev pub Concludes : {F : Type 0} → (F → Option (List ℕ)) → (F → ℕ) → Task → Outcome → ℕ → F → F → Type 0
Concludes said failed t outcome status old new = MatchBool (is_said (reporting_of t) outcome)
    ((status ≡ 1) × (new ≡ old)) (Finishes said failed outcome status old new)
