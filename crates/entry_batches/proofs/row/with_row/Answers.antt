use Rattle.std.proofs.Common.{◌≡◌, ◌+◌, ap}
use Rattle.archive_state.specs.Looks.{Agrees, is_stop}
use Rattle.entry_batches.specs.Batches.{row_entry, with_row}
use Rattle.entry_batches.proofs.Rows.{stops, row_counts, row_right, view_weaker}
use Rattle.entry_batches.proofs.row.with_row.Goals as goal

pub returns-clause-decides : goal.returns-clause-decides
returns-clause-decides g c = view_weaker g.V.View.is_honest g.V.View.shows g.V.View.content c.args.view.now
    c.row_entry-entry.new.view
    (λ x. x.next ≡ c.args.next → Agrees is_stop c.row_entry-entry.result
    (row_entry x c.args.source c.args.made c.args.row.now))
    (λ x. x.next ≡ c.args.next → Agrees stops c.placed.result (with_row x c.args.source c.args.made c.args.row.now))
    (λ x look same. row_right x c.args.source c.args.next (c.count-place.result + 1) c.args.made c.args.row.now
    c.with_given.result c.placed.result same
    (ap (λ n. n + 1) c.count-place.ensures.length)
    (c.with_given.ensures.decides (row_entry x c.args.source c.args.made c.args.row.now) (look same))
    c.placed.ensures)
    c.row_entry-entry.ensures.decides

pub returns-clause-counts : goal.returns-clause-counts
returns-clause-counts g c = row_counts _ _ _ c.row_entry-entry.result c.with_given.result c.placed.result
    c.row_entry-entry.ensures.counts c.with_given.ensures.memory c.placed.ensures
