use Rattle.std.proofs.Common.{◌≡◌, drop}
use Rattle.record_rules.specs.Lines.{lines_all}
use Rattle.record_rules.proofs.lines.lines_fit.Given as goal

abbrev pub invariant-lines : goal.invariant-lines
invariant-lines g l = lines_all (g.J.Judge.fit l.judge) (drop l.line-index l.lines)
    ≡ lines_all (g.J.Judge.fit l.judge) l.lines
