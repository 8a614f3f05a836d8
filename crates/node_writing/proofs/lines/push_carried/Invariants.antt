use Rattle.std.proofs.Common.{◌≡◌, ◌++◌, drop, string_bytes}
use Rattle.node_writing.specs.Pages.{page}
use Rattle.node_writing.proofs.lines.push_carried.Given as goal

abbrev pub invariant-lines : goal.invariant-lines
invariant-lines g l =
    string_bytes l.out ++ page (g.N.Named.names l.index) l.level (drop l.line-index l.lines)
    ≡ string_bytes l.fn.out ++ page (g.N.Named.names l.index) l.level l.lines
