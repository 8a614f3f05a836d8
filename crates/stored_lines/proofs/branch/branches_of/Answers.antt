use Rattle.std.proofs.Common.{arith, ◌≡◌, ◌+◌, map, take}
use Rattle.std.proofs.lemmas.Grind.{common_steps}
use Rattle.stored_lines.specs.Tree.{relabel}
use Rattle.stored_lines.specs.Line.{label_of}
use Rattle.stored_lines.proofs.Levels.{levels-more}
use Rattle.stored_lines.proofs.branch.branches_of.Goals as goal

pub lines-preserved : goal.lines-preserved
lines-preserved c =
    let made : c.push.new.self.items ≡ map (relabel label_of) (take (c.lines.line-index + 1) c.args.carried.now) = grind
    (arith, common_steps) in
    record {
      stored = made;
      shallow = levels-more c.args.carried.now c.lines.line-index c.line-item.result 99 c.lines-test.true c.line-item.is
          c.lines.invariant.shallow c.keep.ensures;
    }
