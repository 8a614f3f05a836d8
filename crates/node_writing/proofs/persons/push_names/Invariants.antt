use Rattle.std.proofs.Common.{◌≡◌, ◌++◌, map, drop, string_bytes}
use Rattle.record_shapes.specs.Shapes.{name_line}
use Rattle.node_writing.specs.Pages.{page}
use Rattle.node_writing.proofs.persons.push_names.Given as goal

abbrev pub invariant-names : goal.invariant-names
invariant-names g l =
    string_bytes l.out ++ page (g.N.Named.names l.index) 1 (map name_line (drop l.name-index l.names))
    ≡ string_bytes l.fn.out ++ page (g.N.Named.names l.index) 1 (map name_line l.names)
