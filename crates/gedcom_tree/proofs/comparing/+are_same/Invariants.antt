use Rattle.std.proofs.Common.{◌↔◌, ℕ, drop}
use Rattle.gedcom_tree.specs.Flat.{flats}
use Rattle.gedcom_tree.specs.Text.{IsSame}
use Rattle.gedcom_tree.proofs.comparing.+are_same.Given as goal

abbrev pub invariant-loop-node : goal.invariant-loop-node
invariant-loop-node l = (level : ℕ) → IsSame (flats level l.fn.a) (flats level l.fn.b) ↔ IsSame
    (flats level (drop l.node-index l.a)) (flats level l.rest)
