use Rattle.std.proofs.Common.{◌≡◌, length}
use Rattle.std.specs.Vec.Iter.{into_iter_items, into_iter_len}
use Rattle.page_batches.specs.Batches.{after, with_places}
use Rattle.page_batches.proofs.rows.rows_with.Given as goal

abbrev pub invariant-entries : goal.invariant-entries
invariant-entries l =
    after l.rows.items (with_places l.fn.places (length l.rows.items) (into_iter_items l.entries))
    ≡ with_places l.fn.places 0 l.fn.entries.items

abbrev pub decreases-entries : goal.decreases-entries
decreases-entries l = into_iter_len l.entries
