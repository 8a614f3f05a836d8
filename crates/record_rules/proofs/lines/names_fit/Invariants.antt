use Rattle.std.proofs.Common.{◌≡◌, drop}
use Rattle.std.specs.List.{list_all}
use Rattle.record_kinds.specs.Model as model
use Rattle.record_rules.specs.Lines.{lines_all}
use Rattle.record_rules.proofs.lines.names_fit.Given as goal

abbrev pub invariant-names : goal.invariant-names
invariant-names g l = list_all (λ (n : model.Name). lines_all (g.J.Judge.fit l.judge) n.carried)
    (drop l.name-index l.names)
    ≡ list_all (λ (n : model.Name). lines_all (g.J.Judge.fit l.judge) n.carried) l.names
