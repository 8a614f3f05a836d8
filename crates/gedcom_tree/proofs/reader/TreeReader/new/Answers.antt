use Rattle.std.proofs.Common.{ap, length, arith}
use Rattle.gedcom_tree.proofs.Fed.{reading_nothing}
use Rattle.gedcom_tree.proofs.reader.TreeReader.new.Goals as goal

pub invariant_of-result : goal.invariant_of-result
invariant_of-result c = (
  omega (arith, ap length c.new-2.ensures.items),
  λ _. reading_nothing c.new.result c.new-2.result.items c.new.ensures.empty c.new.ensures.sound c.new-2.ensures.items
      c.new.ensures.count,
)
