use Rattle.std.proofs.Common.{◌≡◌, ◌++◌, map, drop, string_bytes}
use Rattle.record_shapes.specs.Shapes.{holding_line}
use Rattle.node_writing.specs.Pages.{page}
use Rattle.node_writing.proofs.sources.push_holdings.Given as goal

abbrev pub invariant-holdings : goal.invariant-holdings
invariant-holdings g l =
    string_bytes l.out ++ page (g.N.Named.names l.index) 1 (map holding_line (drop l.holding-index l.holdings))
    ≡ string_bytes l.fn.out ++ page (g.N.Named.names l.index) 1 (map holding_line l.holdings)
