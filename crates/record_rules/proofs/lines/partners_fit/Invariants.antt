use Rattle.std.proofs.Common.{◌≡◌, ◌++◌, drop}
use Rattle.std.specs.List.{list_all}
use Rattle.record_kinds.specs.Model as model
use Rattle.record_rules.specs.Lines.{lines_all}
use Rattle.record_rules.proofs.lines.partners_fit.Given as goal

abbrev pub invariant-partners : goal.invariant-partners
invariant-partners g l =
    let fits = λ (p : model.Partner). lines_all (g.J.Judge.fit l.judge) (p.carried ++ p.carried_by_person) in
    list_all fits (drop l.partner-index l.partners) ≡ list_all fits l.partners
