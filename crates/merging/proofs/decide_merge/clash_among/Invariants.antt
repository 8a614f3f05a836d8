use Rattle.std.proofs.Common.{◌≡◌, ◌≤◌, take, false}
use Rattle.archive_state.specs.Looks.{OnView}
use Rattle.merging.specs.Looks.{clashes_among}
use Rattle.merging.proofs.decide_merge.clash_among.Given as goal

abbrev pub invariant-numbers : goal.invariant-numbers
invariant-numbers g l = record {
  shown : OnView g.V.View.is_honest g.V.View.shows g.V.View.content l.fn.view l.view
      (λ c. clashes_among l.keep l.gone c.records (take l.number-index l.numbers) ≡ false);
  counted : g.V.View.failed l.fn.view ≤ g.V.View.failed l.view;
}
