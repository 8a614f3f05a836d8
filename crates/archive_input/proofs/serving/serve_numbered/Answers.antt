use Rattle.std.proofs.Common.{Ok, Err, refl}
use Rattle.std.proofs.lemmas.Result.{IfErr-weaker, IfOk-weaker}
use Rattle.csv.specs.Records.{fields_of}
use Rattle.archive_input.proofs.Asked.{asked_or}
use Rattle.archive_input.proofs.serving.serve_numbered.Goals as goal

pub returns-in-Ok-clause-served : goal.returns-in-Ok-clause-served
returns-in-Ok-clause-served g c =
    IfOk-weaker c.serve_request.result _ _
    (λ refused h. (Ok (c.in-Ok.request, h.0), c.in-Ok.ensures, h.1, h.2, h.3, h.4))
    c.serve_request.ensures.served

pub returns-in-Ok-clause-ended : goal.returns-in-Ok-clause-ended
returns-in-Ok-clause-ended g c =
    IfErr-weaker c.serve_request.result _ _ (λ kind h. (Ok (c.in-Ok.request, h.0), c.in-Ok.ensures, h.1, h.2))
    c.serve_request.ensures.ended

pub returns-in-Err-clause-served : goal.returns-in-Err-clause-served
returns-in-Err-clause-served g c =
    IfOk-weaker c.answer_refused.result _ _ (λ refused h. (
      Err c.in-Err.bad,
      asked_or (fields_of c.args.row.now) c.in-Err.bad c.in-Err.ensures,
      refl,
      refl,
      h.0,
      h.1,
    )) c.answer_refused.ensures.served

pub returns-in-Err-clause-ended : goal.returns-in-Err-clause-ended
returns-in-Err-clause-ended g c =
    IfErr-weaker c.answer_refused.result _ _ (λ kind h. (
      Err c.in-Err.bad,
      asked_or (fields_of c.args.row.now) c.in-Err.bad c.in-Err.ensures,
      refl,
      h,
    )) c.answer_refused.ensures.ended
