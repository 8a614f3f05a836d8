use Rattle.std.proofs.Common.{◌≡◌, ◌≤◌, take, true}
use Rattle.archive_state.specs.Looks.{OnView}
use Rattle.merging.specs.Comparing.{is_now}
use Rattle.merging.proofs.decide_undo.are_now.Given as goal

abbrev pub invariant-changes : goal.invariant-changes
invariant-changes g l = record {
  shown : OnView g.V.View.is_honest g.V.View.shows g.V.View.content l.fn.view l.view
      (λ c. is_now c.records (take l.change-index l.changes) ≡ true);
  counted : g.V.View.failed l.fn.view ≤ g.V.View.failed l.view;
}
