use Rattle.std.proofs.Common.{◌∙◌, Ok, inr, refl, sym}
use Rattle.std.proofs.lemmas.Result.{IfErr-weaker, IfOk-weaker}
use Rattle.csv.specs.Records.{fields_of}
use Rattle.archive_input.proofs.Asked.{form_ok, with_any}
use Rattle.archive_input.proofs.Stepped.{not_asked}
use Rattle.archive_input.proofs.serving.serve_referring.Goals as goal

pub returns-then-is_shut-clause-served : goal.returns-then-is_shut-clause-served
returns-then-is_shut-clause-served g c =
    let row = fields_of c.args.row.now in
    let r = c.args.request in
    IfOk-weaker c.serve_request.result _ _ (λ refused h. (
      Ok (r, h.0),
      with_any row (Ok (r, h.0)) (form_ok row r c.requires.asks (r, h.0) refl),
      not_asked g.S.Store row (Ok (r, h.0)) c.args.archive.now c.serve_request.new.archive
          (sym c.is_shut.ensures ∙ c.if-is_shut.true),
      h.1,
      h.2,
      h.3,
      h.4,
    )) c.serve_request.ensures.served

pub returns-then-is_shut-clause-ended : goal.returns-then-is_shut-clause-ended
returns-then-is_shut-clause-ended g c =
    let row = fields_of c.args.row.now in
    let r = c.args.request in
    IfErr-weaker c.serve_request.result _ _ (λ kind h. inr (
      Ok (r, h.0),
      with_any row (Ok (r, h.0)) (form_ok row r c.requires.asks (r, h.0) refl),
      not_asked g.S.Store row (Ok (r, h.0)) c.args.archive.now c.serve_request.new.archive
          (sym c.is_shut.ensures ∙ c.if-is_shut.true),
      h.1,
      h.2,
    )) c.serve_request.ensures.ended

pub returns-clause-ended : goal.returns-clause-ended
returns-clause-ended g c = IfErr-weaker c.serve_looked.result _ _ (λ kind h. inr h) c.serve_looked.ensures.ended
