-- A place is found or made over a view.
use Rattle.std.specs.Prelude.{◌≡◌, ◌<◌, ℕ, true, false, List, Option, Some, Result, Ok, Err}
use Rattle.std.specs.BTreeMap.{BTreeMap}
use Rattle.std.specs.declared.string.String.{String}
use Rattle.std.specs.Global.{Global}
use Rattle.archive_state.specs.Content.{Content}
use Rattle.archive_state.specs.Looks.{is_stop}
use Rattle.record_shapes.specs.Paths.{is_within_limits, normal}
use Rattle.record_text.specs.Text.{IsPlain}
use Rattle.record_text.specs.declared.refusal.RefusalKind.{RefusalKind}
use Rattle.record_text.specs.declared.refusal.RefusalKind.TheVariants.{Full}
use Rattle.import_definitions.specs.Made.{lowest_place}
use Rattle.import_definitions.specs.Numbers as numbers
use Rattle.import_numbers.specs.Views.{drawing_said, found_said, under}
use Rattle.import_numbers.specs.declared.drawing.Drawing.{Drawing}
use Rattle.import_numbers.specs.declared.found.Found.{Found}

-- a text that, made normal, is a path within the limits
pub record IsPathText (text : List ℕ) : Type 0 where
  pub plain : IsPlain text
  pub within : is_within_limits (normal text) ≡ true

-- what is kept of looks at an archive is so
abbrev pub Knows : BTreeMap (String Global) (Option ℕ) → Content → Type 0
Knows m c = (path : List ℕ) (found : Option ℕ) → under m path ≡ Some found → found ≡ lowest_place c.records path

-- what a call answers is what is right, where it draws numbers; 63 comes only where a number above 4,294,967,295 would
-- be needed
abbrev pub Settles : numbers.Drawing × Option numbers.Found → Drawing → Result Found RefusalKind → Type 0
Settles right after (Ok f) = (right.0 ≡ drawing_said after) × (right.1 ≡ Some (found_said f))
Settles right after (Err e) = is_stop e ≡ false → (e ≡ Full) × (4294967296 < right.0.next)
