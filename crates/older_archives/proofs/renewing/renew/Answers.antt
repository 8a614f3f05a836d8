use Rattle.std.proofs.Common.{inl, inr, sym}
use Rattle.std.proofs.lemmas.Result.{err_from_is_err_and}
use Rattle.sqlite.specs.Held.{state}
use Rattle.older_archives.proofs.Settling.{left, no_soughts, no_spans}
use Rattle.older_archives.proofs.renewing.renew.Goals as goal
use Rattle.list_laws.proofs.Outcomes.{if_err}

pub returns-in_err-read-clause-undone : goal.returns-in_err-read-clause-undone
returns-in_err-read-clause-undone g c clean =
    if_err c.from_residual.result _ (λ kind other rows was. c.in_err-read.ensures.looks.crash clean rows was)

pub returns-in_err-renewal-clause-refused : goal.returns-in_err-renewal-clause-refused
returns-in_err-renewal-clause-refused g c clean =
    let p = err_from_is_err_and c.from_residual-in_err-renewal.result c.from_residual-in_err-renewal.ensures.1 in
    rw (p.1, p.2) (λ rows content was means. elim c.in_err-renewal.ensures.refused [
      | inl memory ↦ inl memory
      | inr bad ↦ absurd
          (bad.1 rows content (sym (c.in_ok-read.ensures.looks.read clean rows was)) means)
    ])

pub returns-in-Ok-clause-done : goal.returns-in-Ok-clause-done
returns-in-Ok-clause-done g c clean = λ rows content was means.
    let looks = c.in_ok-read.ensures.looks in
    let before = c.in-Ok.ensures.clean clean in (
      _,
      c.in_ok-renewal.ensures.read rows content (sym (looks.read before rows was))
          (no_spans rows _ was.good means.1.has_spans) (no_soughts rows _ was.good means.1.has_spans) means,
      c.in-Ok.ensures.done clean rows means.1.has_spans (looks.same before rows was),
    )

pub returns-in-Ok-clause-crash : goal.returns-in-Ok-clause-crash
returns-in-Ok-clause-crash g c clean = λ rows content was means.
    let looks = c.in_ok-read.ensures.looks in
    let before = c.in-Ok.ensures.clean clean in
    left (state g.S.Store c.commit_renewal.new.conn) rows _ content
    (c.in_ok-renewal.ensures.read rows content (sym (looks.read before rows was))
    (no_spans rows _ was.good means.1.has_spans) (no_soughts rows _ was.good means.1.has_spans) means)
    (c.in-Ok.ensures.crash clean rows means.1.has_spans (looks.same before rows was))

pub returns-clause-crash : goal.returns-clause-crash
returns-clause-crash g c clean = λ rows content was means.
    let looks = c.in_ok-read.ensures.looks in
    let before = c.in-Err.ensures.clean clean in
    left (state g.S.Store c.commit_renewal.new.conn) rows _ content
    (c.in_ok-renewal.ensures.read rows content (sym (looks.read before rows was))
    (no_spans rows _ was.good means.1.has_spans) (no_soughts rows _ was.good means.1.has_spans) means)
    (c.in-Err.ensures.crash clean rows means.1.has_spans (looks.same before rows was))
