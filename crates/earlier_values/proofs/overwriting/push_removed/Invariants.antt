use Rattle.std.proofs.Common.{◌≡◌, ◌≤◌, ◌++◌, take}
use Rattle.archive_state.specs.Looks.{OnView}
use Rattle.earlier_values.specs.Earlier.{standing}
use Rattle.earlier_values.proofs.overwriting.push_removed.Given as goal

abbrev pub invariant-numbers : goal.invariant-numbers
invariant-numbers g l = record {
  shown : OnView g.V.View.is_honest g.V.View.shows g.V.View.content l.fn.view l.view
      (λ c. l.rows.items ≡ l.fn.rows.items ++ standing c.records (take l.number-index l.numbers));
  counted : g.V.View.failed l.fn.view ≤ g.V.View.failed l.view;
}
