-- How a row is answered whose references are looked for in the archive before it. Rules of our own.
use Rattle.std.specs.Prelude.{
  ◌≡◌,
  ◌⊎◌,
  ℕ,
  List,
  Option,
  Result,
  Ok,
  Err,
  IfErr,
  IfOk,
  MatchBool,
  false,
  option_map,
}
use Rattle.std.specs.Io.KnownBytes.{Appends}
use Rattle.sqlite.specs.Held.{state}
use Rattle.sqlite.specs.State.{HasCleanDisk}
use Rattle.sqlite_trees.specs.declared.store.Store.{Ghosts}
use Rattle.archive_state.specs.Content.{Content}
use Rattle.csv.specs.Records.{Row as Record, fields_of}
use Rattle.record_text.specs.declared.refusal.RefusalKind.{RefusalKind}
use Rattle.record_text.specs.declared.refusal.RefusalKind.TheVariants.{OutOfMemory, Storage}
use Rattle.row_references.specs.References.{kept_number, numbered}
use Rattle.store.specs.Histories.{is_storage}
use Rattle.store.specs.Looking.{StaysReadable}
use Rattle.store.specs.Viewing.{OnReadable}
use Rattle.store.specs.declared.archive.Archive.{Archive}
use Rattle.request_csv.specs.Input.{Row}
use Rattle.archive_input.specs.Answers.{Served, answer_text}
use Rattle.archive_input.specs.Applying.{IsServed, IsServedIn, StepsRow, WritesPart, is_in_doubt}
use Rattle.archive_input.specs.Requests.{Asks}
use Rattle.archive_input.specs.RowByRow.{refusal_of}

-- a row was served, and its answer was written
abbrev pub AnswersRow : {S : Type 0} → (g : Ghosts S) → Row → (old new : Archive S g)
    → (before after : Option (List ℕ)) → Option RefusalKind → Type 0
AnswersRow g row old new before after refused =
    (s : Served) × IsServed row s × IsServedIn g row s old new × StepsRow g row s old new × (is_in_doubt s ≡ false)
    × Appends before after (answer_text s) × (refused ≡ refusal_of s)

-- a row was served, and the call ended then: its request is in doubt and has no answer, or a beginning of the answer
-- was written
abbrev pub EndsServing : {S : Type 0} → (g : Ghosts S) → Row → (old new : Archive S g)
    → (before after : Option (List ℕ)) → RefusalKind → Type 0
EndsServing g row old new before after kind =
    (s : Served) × IsServed row s × IsServedIn g row s old new × StepsRow g row s old new
    × MatchBool (is_in_doubt s) ((kind ≡ Storage) × (after ≡ before)) (WritesPart kind before after (answer_text s))

-- the same; or no memory was found to read the row, and nothing is done
abbrev pub EndsInRow : {S : Type 0} → (g : Ghosts S) → Row → (old new : Archive S g)
    → (before after : Option (List ℕ)) → RefusalKind → Type 0
EndsInRow g row old new before after kind =
    ((kind ≡ OutOfMemory) × (new ≡ old) × (after ≡ before)) ⊎ EndsServing g row old new before after kind

-- a row that has no references asks for this; or memory was refused
abbrev pub IsAskedOr : Row → Served → Type 0
IsAskedOr row (Ok done) = Asks row (Ok done.0)
IsAskedOr row (Err bad) = Asks row (Err bad) ⊎ (bad.kind ≡ OutOfMemory)

-- what was found is the row with the numbers that an archive has in place of its references; or memory was refused, or
-- the looks lost the archive
abbrev pub Numbered : Result (Option Record) RefusalKind → Row → Content → Type 0
Numbered found row c = IfOk found (λ own. option_map fields_of own ≡ numbered (kept_number c) row)
    × IfErr found (λ kind. is_storage kind ≡ false → kind ≡ OutOfMemory)

-- looks that found this of what the archive holds, which stays
abbrev pub LooksUp : {S : Type 0} → (g : Ghosts S) → Row → Archive S g → Result (Option Record) RefusalKind
    → Archive S g → Type 0
LooksUp g row old found new = HasCleanDisk (state g new.conn)
    → StaysReadable (state g old.conn) new.is_lost (state g new.conn)
    × OnReadable (state g old.conn) (λ rows c. Numbered found row c)
