use Rattle.std.proofs.Common.{◌∙◌, sym}
use Rattle.std.proofs.lemmas.Result.{IfErr-weaker, IfOk-weaker}
use Rattle.expected_rows.proofs.Foretold.{foreseen, lost, wanted}
use Rattle.expected_rows.proofs.foreseeing.foresee_looking.Goals as goal

pub returns-then-is_lost-clause-ended : goal.returns-then-is_lost-clause-ended
returns-then-is_lost-clause-ended g c =
    let looks = c.decide_looking-decided.ensures in
    lost g.S.Store c.args.request.now c.decide_looking-decided.result c.args.archive.now
    c.decide_looking-decided.new.archive c.requires.takes looks.looked looks.aside
    (sym c.is_lost.ensures ∙ c.if-is_lost.true)

pub returns-clause-foresees : goal.returns-clause-foresees
returns-clause-foresees g c =
    let looks = c.decide_looking-decided.ensures in
    IfOk-weaker c.answer_in.result _ _ (λ o h. foreseen g.S.Store c.args.request.now c.decide_looking-decided.result
    c.args.archive.now c.decide_looking-decided.new.archive c.requires.takes looks.looked looks.aside
    (sym c.is_lost.ensures ∙ c.if-is_lost.false) o h) c.answer_in.ensures.same

pub returns-clause-ended : goal.returns-clause-ended
returns-clause-ended g c =
    let looks = c.decide_looking-decided.ensures in
    IfErr-weaker c.answer_in.result _ _ (λ kind h. wanted g.S.Store c.args.request.now c.decide_looking-decided.result
    c.args.archive.now c.decide_looking-decided.new.archive c.requires.takes looks.looked looks.aside
    (sym c.is_lost.ensures ∙ c.if-is_lost.false) kind h) c.answer_in.ensures.wanted
