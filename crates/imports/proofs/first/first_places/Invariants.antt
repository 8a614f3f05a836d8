use Rattle.std.proofs.Common.{◌≡◌, ℕ, List, take, map}
use Rattle.std.specs.Prelude.{option_map, string_bytes}
use Rattle.import_definitions.specs.Positions.{position_of}
use Rattle.import_numbers.specs.Views.{under}
use Rattle.imports.proofs.first.first_places.Given as goal

abbrev pub invariant-loop-path : goal.invariant-loop-path
invariant-loop-path l = record {
  count : l.at ≡ l.path-index;
  places : (q : List ℕ) → under l.places q
      ≡ position_of q 0 (map (option_map string_bytes) (take l.path-index l.paths));
}
