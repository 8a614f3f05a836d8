-- What an export gives when it is read into an empty archive: rules of our own.
use Rattle.std.specs.Prelude.{ℕ, ◌≡◌, ◌≤◌, length, List, [], Ok}
use Rattle.std.specs.FinMap.{empty}
use Rattle.record_text.specs.Text.{IsText}
use Rattle.archive_state.specs.Applied.{with_puts}
use Rattle.archive_state.specs.Changes.{Batch}
use Rattle.archive_state.specs.Content.{Content, nothing}
use Rattle.archive_state.specs.Sound.{IsSound}
use Rattle.gedcom_tree.specs.Forest.{Item}
use Rattle.gedcom_tree.specs.File.{ReadsFile}
use Rattle.gedcom_tree.specs.Text.{IsSame, text}
use Rattle.import_definitions.specs.Made.{made}
use Rattle.import_definitions.specs.Report.{report}
use Rattle.gedcom_export.specs.Forest.{exported}
use Rattle.round_trip.specs.Positions.{new_number}
use Rattle.round_trip.specs.Same.{AreSame, IsCarriedBy}

-- the import is not refused, and its batch has the records of the archive
abbrev pub ImportHasAll : Type 0
ImportHasAll = (c : Content) (society : List ℕ) (f : List Item) → IsSound c → IsSame f (exported c.records society)
    → (b : Batch) × (made nothing f ≡ Ok b)
    × IsCarriedBy (new_number c.records) c.records (with_puts empty b.records)

-- nothing is reported
abbrev pub ReportsNothing : Type 0
ReportsNothing = (c : Content) (society : List ℕ) (f : List Item) → IsSound c
    → IsSame f (exported c.records society) → report f ≡ []

-- the records are the same up to their numbers, and so are the orders that count
abbrev pub ComesBack : Type 0
ComesBack = (c : Content) (society : List ℕ) (f : List Item) → IsSound c → IsSame f (exported c.records society)
    → (b : Batch) × (made nothing f ≡ Ok b) × (report f ≡ []) × AreSame c.records (with_puts empty b.records)

-- The text of an export, where it has room in a file, reads as a forest; what that gives is the same as the archive, up
-- to numbers. A file reads as one forest at the most: a law of `gedcom_tree`.
abbrev pub FileComesBack : Type 0
FileComesBack = (c : Content) (society : List ℕ) → IsSound c → IsText society
    → length (text (exported c.records society)) ≤ 67108864
    → (f : List Item) × ReadsFile (text (exported c.records society)) f
    × ((b : Batch) × (made nothing f ≡ Ok b) × (report f ≡ []) × AreSame c.records (with_puts empty b.records))
