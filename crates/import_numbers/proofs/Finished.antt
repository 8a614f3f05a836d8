-- A record finished by its own place is that of the batch.
use Rattle.std.proofs.Common.{◌≡◌, ℕ, List, refl, sym, ap}
use Rattle.std.specs.Prelude.{Option, Some, None}
use Rattle.record_kinds.specs.declared.record.Record.{Record}
use Rattle.archive_state.specs.Merging.{record_with}
use Rattle.import_definitions.specs.Numbers as numbers
use Rattle.import_numbers.specs.Placed.{IsFound, finished_at}

pub is_finished : (w : numbers.Places) (d : numbers.Drawing) (n owner : ℕ) (r : Record) (path : Option (List ℕ))
    (found : Option numbers.Found) → IsFound w d path found
    → (numbers.finished w d (numbers.of_file n owner r path)).«record» ≡ finished_at d.roots owner path found r
is_finished w d n owner r None found h = refl
is_finished w d n owner r (Some path) found h =
    ap (λ f. numbers.owned_by owner (numbers.at_place (numbers.number_found d.roots f)
    (record_with (numbers.number_at d.roots) r))) (sym h)
