-- What calls owe that draw numbers, and the batch that is made by them.
use Rattle.std.specs.Prelude.{ℕ, ◌≡◌, ◌<◌, nat_lt, false, [], ◌∷◌, ◌++◌, if◌then◌else◌, Option, None, Result, Ok, Err}
use Rattle.archive_state.specs.Looks.{is_stop}
use Rattle.archive_state.specs.Changes.{Batch}
use Rattle.record_text.specs.declared.refusal.Refusal.{Refusal}
use Rattle.record_text.specs.declared.refusal.RefusalKind.{RefusalKind}
use Rattle.record_text.specs.declared.refusal.RefusalKind.TheVariants.{Full}
use Rattle.import_definitions.specs.Made.{batch}
use Rattle.import_definitions.specs.Numbers as numbers
use Rattle.import_numbers.specs.Views.{drawing_said}
use Rattle.import_numbers.specs.declared.drawing.Drawing.{Drawing}
use Rattle.import_numbers.specs.Placed.{IsFound}

-- the right numbers are drawn; 63 comes only where a number above 4,294,967,295 would be needed
abbrev pub Draws : {A : Type 0} → numbers.Drawing → Drawing → Result A RefusalKind → Type 0
Draws right after (Ok a) = drawing_said after ≡ right
Draws right after (Err e) = is_stop e ≡ false → (e ≡ Full) × (4294967296 < right.next)

-- the batch, once all numbers are drawn; 63, where a number above 4,294,967,295 would be needed
abbrev pub batch_or_full : numbers.Places → numbers.Drawing → Result Batch RefusalKind
batch_or_full w d = if nat_lt 4294967296 d.next then Err Full else Ok (batch w d)

-- a refusal that names no line
abbrev pub with_no_line : Result Batch RefusalKind → Result Batch Refusal
with_no_line (Ok b) = Ok b
with_no_line (Err e) = Err (record { kind = e; at = None })

-- with the number of one more position
abbrev pub with_root : ℕ → numbers.Drawing → numbers.Drawing
with_root n d = record d { roots = d.roots ++ n ∷ [] }

-- the place is the one of the path by which that of an event was sought, once all numbers are drawn
abbrev pub IsPlaceOf : numbers.Places → numbers.Drawing → numbers.Drawn → Option numbers.Found → Type 0
IsPlaceOf w d (numbers.of_file n owner r path) found = IsFound w d path found
IsPlaceOf w d (numbers.of_path n name parent) found = Unit {0}
