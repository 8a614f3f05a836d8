use Rattle.std.proofs.Common.{◌≡◌, ◌++◌, ◌≤◌, take}
use Rattle.std.specs.List.{flat_map}
use Rattle.archive_state.specs.Looks.{OnView}
use Rattle.histories.specs.History.{past_part}
use Rattle.histories.proofs.page.push_values.Given as goal

abbrev pub invariant-each : goal.invariant-each
invariant-each g l = record {
  shown : OnView g.V.View.is_honest g.V.View.shows g.V.View.content l.fn.view l.view
      (λ c. l.out.items ≡ l.fn.out.items
      ++ flat_map (past_part c.records l.number) (take l.value-index l.values));
  counted : g.V.View.failed l.fn.view ≤ g.V.View.failed l.view;
}
