use Rattle.std.proofs.Common.{◌≡◌, ◌≤◌, ◌++◌, take}
use Rattle.archive_state.specs.Looks.{OnView}
use Rattle.earlier_values.specs.Earlier.{replaced}
use Rattle.earlier_values.proofs.overwriting.push_replaced.Given as goal

abbrev pub invariant-puts : goal.invariant-puts
invariant-puts g l = record {
  shown : OnView g.V.View.is_honest g.V.View.shows g.V.View.content l.fn.view l.view
      (λ c. l.rows.items ≡ l.fn.rows.items ++ replaced c.records (take l.put-index l.puts));
  counted : g.V.View.failed l.fn.view ≤ g.V.View.failed l.view;
}
