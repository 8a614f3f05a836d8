use Rattle.std.proofs.Common.{◌≡◌, ◌≤◌, take}
use Rattle.archive_state.specs.Looks.{OnView}
use Rattle.merging.specs.Looks.{changes_of}
use Rattle.merging.proofs.decide_merge.changes_at.Given as goal

abbrev pub invariant-numbers : goal.invariant-numbers
invariant-numbers g l = record {
  shown : OnView g.V.View.is_honest g.V.View.shows g.V.View.content l.fn.view l.view
      (λ c. l.changes.items ≡ changes_of l.keep l.gone c.records (take l.number-index l.numbers));
  counted : g.V.View.failed l.fn.view ≤ g.V.View.failed l.view;
}
