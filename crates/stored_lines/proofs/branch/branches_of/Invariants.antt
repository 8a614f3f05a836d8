use Rattle.std.proofs.Common.{◌≡◌, ◌≤◌, take, map}
use Rattle.stored_lines.specs.Tree.{relabel, forest_of}
use Rattle.stored_lines.specs.Levels.{forest_levels}
use Rattle.stored_lines.specs.Line.{label_of}
use Rattle.stored_lines.proofs.branch.branches_of.Given as goal

abbrev pub invariant-lines : goal.invariant-lines
invariant-lines l = record {
  stored : l.branches.items ≡ map (relabel label_of) (take l.line-index l.carried);
  shallow : forest_levels (forest_of (take l.line-index l.carried)) ≤ 99;
}
