use Rattle.std.proofs.Common.{◌≡◌, ◌++◌, map, drop, string_bytes}
use Rattle.record_shapes.specs.Shapes.{partner_line}
use Rattle.node_writing.specs.Pages.{page}
use Rattle.node_writing.proofs.families.push_partners.Given as goal

abbrev pub invariant-partners : goal.invariant-partners
invariant-partners g l =
    string_bytes l.out ++ page (g.N.Named.names l.index) 1 (map partner_line (drop l.partner-index l.partners))
    ≡ string_bytes l.fn.out ++ page (g.N.Named.names l.index) 1 (map partner_line l.partners)
