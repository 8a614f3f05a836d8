use Rattle.std.proofs.Common.{◌≡◌, drop}
use Rattle.record_rules.specs.Lines.{line_all, lines_all}
use Rattle.record_rules.proofs.lines.+line_fits.Given as goal

abbrev pub invariant-children : goal.invariant-children
invariant-children g l = lines_all (g.J.Judge.fit l.judge) (drop l.child-index l.child-items)
    ≡ line_all (g.J.Judge.fit l.judge) l.line
