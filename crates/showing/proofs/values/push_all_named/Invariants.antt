use Rattle.std.proofs.Common.{◌≡◌, ◌++◌, ◌≤◌, take, string_bytes}
use Rattle.std.specs.List.{flat_map}
use Rattle.archive_state.specs.Looks.{OnView}
use Rattle.showing.specs.Values.{named_line}
use Rattle.showing.proofs.values.push_all_named.Given as goal

abbrev pub invariant-each : goal.invariant-each
invariant-each g l = record {
  shown : OnView g.V.View.is_honest g.V.View.shows g.V.View.content l.fn.view l.view
      (λ c. string_bytes l.out ≡ string_bytes l.fn.out
      ++ flat_map (named_line c.records) (take l.number-index l.numbers));
  counted : g.V.View.failed l.fn.view ≤ g.V.View.failed l.view;
}
