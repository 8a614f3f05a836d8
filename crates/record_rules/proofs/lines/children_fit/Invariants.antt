use Rattle.std.proofs.Common.{◌≡◌, ◌++◌, drop}
use Rattle.std.specs.List.{list_all}
use Rattle.record_kinds.specs.Model as model
use Rattle.record_rules.specs.Lines.{lines_all}
use Rattle.record_rules.proofs.lines.children_fit.Given as goal

abbrev pub invariant-children : goal.invariant-children
invariant-children g l =
    let fits = λ (c : model.Child). lines_all (g.J.Judge.fit l.judge) (c.carried ++ c.carried_by_person) in
    list_all fits (drop l.child-index l.children) ≡ list_all fits l.children
