use Rattle.std.proofs.Common.{◌≡◌, ◌≤◌, length}
use Rattle.gedcom_tree.specs.Flat.{built}
use Rattle.gedcom_tree.proofs.growing.Growing.close_to.Given as goal

abbrev pub invariant-loop-self : goal.invariant-loop-self
invariant-loop-self l = record {
  same : built l.self.roots.items l.self.path.items ≡ built l.fn.self.roots.items l.fn.self.path.items;
  enough : l.level ≤ length l.self.path.items;
}

abbrev pub decreases-loop-self : goal.decreases-loop-self
decreases-loop-self l = length l.self.path.items
