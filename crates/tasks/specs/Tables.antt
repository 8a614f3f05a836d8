-- How a page of the input that is entered ends: what is printed of it, and what the faults get. Rules of our own.
use Rattle.std.specs.Prelude.{
  ◌≡◌,
  ◌⊎◌,
  ◌==◌,
  ◌++◌,
  ◌∷◌,
  [],
  ℕ,
  List,
  Option,
  Result,
  Ok,
  Err,
  IfErr,
  OnOk,
  codes,
  if◌then◌else◌,
}
use Rattle.std.specs.Fmt.{decimal}
use Rattle.std.specs.List.{flat_map}
use Rattle.std.specs.Io.KnownBytes.{Appends}
use Rattle.archive_tables.specs.declared.entering.PageEnd.{PageEnd}
use Rattle.archive_tables.specs.declared.making.MadePlace.{MadePlace}
use Rattle.archive_tables.specs.declared.entering.PageEnd.TheVariants.{Entered, Unread}
use Rattle.devices.specs.Devices.{Rose}
use Rattle.page_batches.specs.declared.rows.BatchRefusal.{BatchRefusal}
use Rattle.page_checks.specs.Refusing.{page_lines}
use Rattle.receipts.specs.declared.answer.Answer.{Answer}
use Rattle.record_text.specs.declared.refusal.RefusalKind.{RefusalKind}
use Rattle.record_text.specs.declared.refusal.RefusalKind.TheVariants.{OutOfMemory}
use Rattle.record_text.specs.declared.refusal.Unit.TheVariants as unit
use Rattle.searching.specs.Printing.{shown}
use Rattle.table_pages.specs.declared.fault.PageFault.{PageFault}
use Rattle.tasks.specs.Checking.{bad_rows}
use Rattle.tasks.specs.Faults.{IsReported}
use Rattle.tasks.specs.Parts.{IsPrintedPart}
use Rattle.tasks.specs.Status.{Outcome, placeless_text}
use Rattle.tasks.specs.Texts.{made_text}

-- what entering a page has come to
abbrev pub PageEntering : Type 0
PageEntering = Result PageEnd BatchRefusal

-- how many dates of a page have no days but words; nothing, where there are none
abbrev pub words_text : ℕ → List ℕ
words_text n = if n == 0 then [] else decimal n ++ (codes " dates have no days but words" ++ 10 ∷ [])

-- a place that was made
abbrev pub place_line : MadePlace → List ℕ
place_line m = codes "place " ++ (decimal m.number ++ (codes " is new: " ++ (shown m.path ++ 10 ∷ [])))

-- a line was said for each place that was made; or no memory was found for them, and nothing is said
abbrev pub SaysPlaces : {F : Type 0} → (F → Option (List ℕ)) → (F → ℕ) → F → F → List MadePlace → Type 0
SaysPlaces said fails old new made = IsReported said fails old new (flat_map place_line made) ⊎ (new ≡ old)

-- the lines of a fault were said, after which nothing more is; or no memory was found for them. `said` is what the
-- faults have got, `fails` how often they failed
abbrev pub SaysFault : {F : Type 0} → (F → Option (List ℕ)) → (F → ℕ) → Outcome → F → F → PageFault → Type 0
SaysFault said fails outcome old new fault = ((outcome ≡ bad_rows) × IsReported said fails old new (page_lines fault))
    ⊎ ((outcome ≡ Err (placeless_text OutOfMemory)) × (new ≡ old))

-- `written` is what the output has got and `said` the faults; `failed` and `fails` are how often they failed
module _ {W F : Type 0} (written : W → Option (List ℕ)) (failed : W → ℕ) (said : F → Option (List ℕ)) (fails : F → ℕ)
    (outcome : Outcome) (before after : W) (old new : F) where
  -- the line of the answer was printed, or a prefix of it
  pub record PrintsMade (answer : Answer) : Type 0 where
    pub printed : OnOk outcome (Appends (written before) (written after) (made_text answer))
    pub part : IfErr outcome (λ t. (kind : RefusalKind) × (t ≡ placeless_text kind)
        × IsPrintedPart (made_text answer) kind (written before) (written after) (Rose (failed before) (failed after)))

  -- of a page that was entered how many dates are words; of its fault the lines; of one that the archive refuses the
  -- line of the cell that is to blame
  abbrev pub SaysPage : PageEntering → Type 0
  SaysPage (Ok (Entered answer words)) = PrintsMade answer × IsReported said fails old new (words_text words)
  SaysPage (Ok (Unread fault)) = SaysFault said fails outcome old new fault × (after ≡ before)
  SaysPage (Err e) = (outcome ≡ Err (record { refusal = e.refusal; unit = unit.Row }))
      × IsReported said fails old new e.line × (after ≡ before)
