use Rattle.std.proofs.Common.{◌≡◌, drop}
use Rattle.std.specs.List.{list_all}
use Rattle.record_kinds.specs.Model as model
use Rattle.record_rules.specs.Lines.{lines_all}
use Rattle.record_rules.proofs.lines.holdings_fit.Given as goal

abbrev pub invariant-holdings : goal.invariant-holdings
invariant-holdings g l = list_all (λ (h : model.Holding). lines_all (g.J.Judge.fit l.judge) h.carried)
    (drop l.holding-index l.holdings)
    ≡ list_all (λ (h : model.Holding). lines_all (g.J.Judge.fit l.judge) h.carried) l.holdings
