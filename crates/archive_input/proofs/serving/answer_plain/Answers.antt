use Rattle.std.proofs.Common.{Ok, Err, inl, inr, refl}
use Rattle.std.proofs.lemmas.Result.{IfErr-weaker, IfOk-weaker}
use Rattle.commands.specs.Rows.{is_want}
use Rattle.csv.specs.Records.{fields_of}
use Rattle.row_references.specs.References.{any_number, kept_number}
use Rattle.archive_input.proofs.Asked.{plain_err, plain_ok, with_any}
use Rattle.archive_input.proofs.Outcomes.{by_bool}
use Rattle.archive_input.proofs.serving.answer_plain.Goals as goal

pub returns-in-Ok-clause-served : goal.returns-in-Ok-clause-served
returns-in-Ok-clause-served g c =
    let row = fields_of c.args.row.now in
    let none = c.requires.plain in
    IfOk-weaker c.serve_request.result _ _ (λ refused h. (
      Ok (c.in-Ok.request, h.0),
      with_any row (Ok (c.in-Ok.request, h.0)) (plain_ok any_number row (c.in-Ok.request, h.0) none c.in-Ok.ensures),
      (λ clean was society k rows settled keeps sure.
          plain_ok (kept_number k) row (c.in-Ok.request, h.0) none c.in-Ok.ensures),
      h.1,
      h.2,
      h.3,
      h.4,
    )) c.serve_request.ensures.served

pub returns-in-Ok-clause-ended : goal.returns-in-Ok-clause-ended
returns-in-Ok-clause-ended g c =
    let row = fields_of c.args.row.now in
    IfErr-weaker c.serve_request.result _ _ (λ kind h. inr (
      Ok (c.in-Ok.request, h.0),
      with_any row (Ok (c.in-Ok.request, h.0))
          (plain_ok any_number row (c.in-Ok.request, h.0) c.requires.plain c.in-Ok.ensures),
      (λ clean was society k rows settled keeps sure.
          plain_ok (kept_number k) row (c.in-Ok.request, h.0) c.requires.plain c.in-Ok.ensures),
      h.1,
      h.2,
    )) c.serve_request.ensures.ended

pub returns-in-Err-clause-served : goal.returns-in-Err-clause-served
returns-in-Err-clause-served g c =
    let row = fields_of c.args.row.now in
    let none = c.requires.plain in
    IfOk-weaker c.answer_bad.result _ _ (λ refused h. (
      Err c.in-Err.bad,
      with_any row (Err c.in-Err.bad) (plain_err any_number row c.in-Err.bad none (c.in-Err.ensures h.0)),
      (λ clean was society k rows settled keeps sure.
          plain_err (kept_number k) row c.in-Err.bad none (c.in-Err.ensures h.0)),
      inl refl,
      refl,
      h.1,
      h.2,
    )) c.answer_bad.ensures.served

pub returns-in-Err-clause-ended : goal.returns-in-Err-clause-ended
returns-in-Err-clause-ended g c =
    let row = fields_of c.args.row.now in
    IfErr-weaker c.answer_bad.result _ _
    (λ kind h. by_bool (is_want c.in-Err.bad.kind) h (λ yes a. inl (a.0, refl, a.1))
    (λ no w. inr (
      Err c.in-Err.bad,
      with_any row (Err c.in-Err.bad) (plain_err any_number row c.in-Err.bad c.requires.plain (c.in-Err.ensures no)),
      (λ clean was society k rows settled keeps sure.
          plain_err (kept_number k) row c.in-Err.bad c.requires.plain (c.in-Err.ensures no)),
      inl refl,
      w,
    ))) c.answer_bad.ensures.ended
