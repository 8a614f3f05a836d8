use Rattle.std.proofs.Common.{Err, inl, inr, refl}
use Rattle.std.proofs.lemmas.Result.{IfErr-weaker, IfOk-weaker}
use Rattle.commands.specs.Rows.{is_want}
use Rattle.csv.specs.Records.{fields_of}
use Rattle.row_references.specs.References.{any_number, kept_number, numbered}
use Rattle.archive_input.proofs.Asked.{form_err, with_any}
use Rattle.archive_input.proofs.Outcomes.{by_bool}
use Rattle.archive_input.proofs.serving.answer_referring.Goals as goal

pub returns-in-Err-clause-served : goal.returns-in-Err-clause-served
returns-in-Err-clause-served g c =
    let row = fields_of c.args.row.now in
    IfOk-weaker c.answer_bad.result _ _ (λ refused h. (
      Err c.in-Err.bad,
      with_any row (Err c.in-Err.bad) (form_err (numbered any_number row) row c.in-Err.bad (c.in-Err.ensures h.0)),
      (λ clean was society k rows settled keeps sure.
          form_err (numbered (kept_number k) row) row c.in-Err.bad (c.in-Err.ensures h.0)),
      inl refl,
      refl,
      h.1,
      h.2,
    )) c.answer_bad.ensures.served

pub returns-in-Err-clause-ended : goal.returns-in-Err-clause-ended
returns-in-Err-clause-ended g c =
    let row = fields_of c.args.row.now in
    IfErr-weaker c.answer_bad.result _ _
    (λ kind h. by_bool (is_want c.in-Err.bad.kind) h (λ yes a. inl (a.0, refl, a.1))
    (λ no w. inr (
      Err c.in-Err.bad,
      with_any row (Err c.in-Err.bad) (form_err (numbered any_number row) row c.in-Err.bad (c.in-Err.ensures no)),
      (λ clean was society k rows settled keeps sure.
          form_err (numbered (kept_number k) row) row c.in-Err.bad (c.in-Err.ensures no)),
      inl refl,
      w,
    ))) c.answer_bad.ensures.ended
