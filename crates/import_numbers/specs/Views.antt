-- What contracts see of the code's values: where a place is, what numbers are drawn for, and what was drawn.
use Rattle.std.specs.Prelude.{ℕ, List, map, Option, option_map}
use Rattle.std.specs.BTreeMap.{BTreeMap, get_by_text}
use Rattle.std.specs.declared.string.String.{String}
use Rattle.std.specs.Global.{Global}
use Rattle.archive_state.specs.Content.{Content}
use Rattle.import_definitions.specs.Made.{lowest_place}
use Rattle.import_definitions.specs.Numbers as numbers
use Rattle.import_numbers.specs.declared.found.Found.{Found}
use Rattle.import_numbers.specs.declared.found.Found.TheVariants as found
use Rattle.import_numbers.specs.declared.drawing.Drawing.{Drawing}
use Rattle.import_numbers.specs.declared.drawing.Drawn.{Drawn}
use Rattle.import_numbers.specs.declared.drawing.Drawn.TheVariants as drawn

abbrev pub found_said : Found → numbers.Found
found_said (found.Number n) = numbers.at_number n
found_said (found.Position k) = numbers.at_position k

abbrev pub drawn_said : Drawn → numbers.Drawn
drawn_said (drawn.Record n owner r path) = numbers.of_file n owner r path
drawn_said (drawn.Place n name parent) = numbers.of_path n name (option_map found_said parent)

-- numbers or positions under paths
abbrev pub under : {X : Type 0} → BTreeMap (String Global) X → List ℕ → Option X
under m path = get_by_text m path

abbrev pub drawing_said : Drawing → numbers.Drawing
drawing_said d = record {
  next = d.next;
  roots = d.roots.items;
  drawn = map drawn_said d.drawn.items;
  made = under d.made;
}

-- the places of an archive, and of a file by their paths
abbrev pub places_of : Content → BTreeMap (String Global) ℕ → numbers.Places
places_of c file = record { archive = lowest_place c.records; file = under file }
