use Rattle.std.proofs.Common.{◌≡◌, ◌++◌, map, drop, string_bytes}
use Rattle.record_shapes.specs.Shapes.{mention_line}
use Rattle.node_writing.specs.Pages.{page}
use Rattle.node_writing.proofs.registers.push_mentions.Given as goal

abbrev pub invariant-mentions : goal.invariant-mentions
invariant-mentions g l =
    string_bytes l.out ++ page (g.N.Named.names l.index) 1 (map mention_line (drop l.mention-index l.mentions))
    ≡ string_bytes l.fn.out ++ page (g.N.Named.names l.index) 1 (map mention_line l.mentions)
