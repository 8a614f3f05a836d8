use Rattle.std.proofs.Common.{◌≡◌, ◌≤◌, take}
use Rattle.std.specs.FinMap as map
use Rattle.std.specs.List.{flat_map}
use Rattle.archive_state.specs.Looks.{OnView}
use Rattle.showing.specs.SlipLists as lists
use Rattle.showing.proofs.slip_lists.lines_at.Given as goal

abbrev pub invariant-each : goal.invariant-each
invariant-each g l = record {
  shown : OnView g.V.View.is_honest g.V.View.shows g.V.View.content l.fn.view l.view
      (λ c. l.lines.items ≡ flat_map (λ n. lists.line_at n (map.get c.slips n)) (take l.number-index l.numbers));
  counted : g.V.View.failed l.fn.view ≤ g.V.View.failed l.view;
}
