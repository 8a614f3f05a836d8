use Rattle.std.proofs.Common.{take}
use Rattle.std.specs.BTreeSet as set
use Rattle.table_looks.specs.Linking.{AreLinesLinked, pair_order}
use Rattle.table_looks.proofs.linking.first_target.Given as goal

abbrev pub invariant-lines : goal.invariant-lines
invariant-lines l = AreLinesLinked (set.contains pair_order l.links) l.number (take l.line-index l.lines)
