-- A record with its owner, and where it is an event at the place that was found for its path.
use Rattle.std.specs.Prelude.{◌≡◌, ℕ, List, Option, Some, None}
use Rattle.record_kinds.specs.declared.record.Record.{Record}
use Rattle.archive_state.specs.Merging.{record_with}
use Rattle.import_definitions.specs.Numbers as numbers

-- at the place, where a path was sought
abbrev pub placed_at : List ℕ → Option (List ℕ) → Option numbers.Found → Record → Record
placed_at roots None found r = r
placed_at roots (Some path) found r = numbers.at_place (numbers.number_found roots found) r

-- a record of the file whose positions become numbers
abbrev pub finished_at : List ℕ → ℕ → Option (List ℕ) → Option numbers.Found → Record → Record
finished_at roots owner path found r =
    numbers.owned_by owner (placed_at roots path found (record_with (numbers.number_at roots) r))

-- the place is the one of the path, once all numbers are drawn
abbrev pub IsFound : numbers.Places → numbers.Drawing → Option (List ℕ) → Option numbers.Found → Type 0
IsFound w d None found = Unit {0}
IsFound w d (Some path) found = found ≡ numbers.find w None d.made path
