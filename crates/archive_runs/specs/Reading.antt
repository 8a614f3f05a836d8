-- What an export says of the archive that it is of. A rule of our own.
use Rattle.std.specs.Prelude.{◌≡◌, [], ℕ, List, Ok}
use Rattle.std.specs.FinMap.{empty}
use Rattle.archive_state.specs.Applied.{with_puts}
use Rattle.archive_state.specs.Changes.{Batch}
use Rattle.archive_state.specs.Content.{Content, nothing}
use Rattle.round_trip.specs.Same.{AreSame}
use Rattle.gedcom_tree.specs.File.{ReadsFile}
use Rattle.gedcom_tree.specs.Forest.{Item}
use Rattle.import_definitions.specs.Made.{made}
use Rattle.import_definitions.specs.Report.{report}

-- the bytes are a file, and read into an empty archive it gives the same records, up to their numbers, and no report
abbrev pub ReadsBack : Content → List ℕ → Type 0
ReadsBack c bytes = (forest : List Item) × ReadsFile bytes forest
    × ((b : Batch) × (made nothing forest ≡ Ok b) × (report forest ≡ [])
    × AreSame c.records (with_puts empty b.records))
