use Rattle.std.proofs.lemmas.Result.{IfErr-weaker, IfOk-weaker}
use Rattle.archive_input.proofs.Refused.{refused_shut}
use Rattle.archive_input.proofs.serving.serve_request.Goals as goal

pub returns-clause-served : goal.returns-clause-served
returns-clause-served g c =
    let did = c.perform-outcome.ensures in
    let refused = refused_shut g.S.Store c.args.archive.now c.perform-outcome.new.self c.args.request
    c.perform-outcome.result did.reopen did.waits in
    IfOk-weaker c.answer_outcome-answered.result _ _
    (λ refusal h. (c.perform-outcome.result, (did.performs, did.lost, refused), h.0, h.1, h.2))
    c.answer_outcome-answered.ensures.served

pub returns-clause-ended : goal.returns-clause-ended
returns-clause-ended g c =
    let did = c.perform-outcome.ensures in
    let refused = refused_shut g.S.Store c.args.archive.now c.perform-outcome.new.self c.args.request
    c.perform-outcome.result did.reopen did.waits in
    IfErr-weaker c.answer_outcome-answered.result _ _
    (λ kind h. (c.perform-outcome.result, (did.performs, did.lost, refused), h))
    c.answer_outcome-answered.ensures.ended
