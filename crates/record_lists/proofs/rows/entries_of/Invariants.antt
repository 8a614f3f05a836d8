use Rattle.std.proofs.Common.{◌≡◌, ◌≤◌, take}
use Rattle.archive_state.specs.Looks.{OnView}
use Rattle.record_lists.specs.Texts.{entries_of}
use Rattle.record_lists.proofs.rows.entries_of.Given as goal

abbrev pub invariant-each : goal.invariant-each
invariant-each g l = record {
  shown : OnView g.V.View.is_honest g.V.View.shows g.V.View.content l.fn.view l.view
      (λ c. l.found.items ≡ entries_of c.records (take l.line-index l.lines));
  counted : g.V.View.failed l.fn.view ≤ g.V.View.failed l.view;
}
