use Rattle.std.proofs.Common.{◌≡◌, drop}
use Rattle.std.specs.List.{list_all}
use Rattle.record_kinds.specs.Model as model
use Rattle.record_rules.specs.Lines.{lines_all}
use Rattle.record_rules.proofs.lines.participants_fit.Given as goal

abbrev pub invariant-participants : goal.invariant-participants
invariant-participants g l = list_all (λ (p : model.Participant). lines_all (g.J.Judge.fit l.judge) p.carried)
    (drop l.participant-index l.participants)
    ≡ list_all (λ (p : model.Participant). lines_all (g.J.Judge.fit l.judge) p.carried) l.participants
