-- At each turn, what is left leads from what is made to where all rows lead.
use Rattle.std.proofs.Common.{◌≡◌, ◌≤◌}
use Rattle.archive_state.specs.Looks.{OnView}
use Rattle.entry_batches.proofs.Rows.{LeadsOn}
use Rattle.entry_batches.proofs.batch.with_rows.Given as goal

abbrev pub invariant-rows : goal.invariant-rows
invariant-rows g l = record {
  way : OnView g.V.View.is_honest g.V.View.shows g.V.View.content l.fn.view l.view
      (λ c. c.next ≡ l.next → LeadsOn c l.source l.rows l.made l.row-index);
  counts : g.V.View.failed l.fn.view ≤ g.V.View.failed l.view;
}
