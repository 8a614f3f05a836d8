use Rattle.std.proofs.Common.{ℕ, List, Ok, Err, inl, inr, ap, sym, ◌∙◌}
use Rattle.std.proofs.lemmas.Result.{err_from_is_err_and}
use Rattle.stored_lines.specs.Line.{Label}
use Rattle.store_rows.proofs.Seen.{record_bad, record_some, sees_later, sees_with}
use Rattle.store_rows.proofs.looking.record_at.Goals as goal

pub returns-in_default-clause-sees : goal.returns-in_default-clause-sees
returns-in_default-clause-sees g c =
    sees_later c.record_by_rows.result (rw c.in_default.is at c.in_ok-pack.ensures.looks) c.record_by_rows.ensures.sees

pub returns-in_err-record_of-clause-sees : goal.returns-in_err-record_of-clause-sees
returns-in_err-record_of-clause-sees g c =
    let p = err_from_is_err_and c.from_residual-in_err-record_of.result c.from_residual-in_err-record_of.ensures.1 in
    let found = rw c.in-Some.is at c.in_ok-pack.ensures.looks in
    rw (p.1, p.2) (sees_with (Err _) found tt (λ rows is. elim c.in_err-record_of.ensures.refused [
      | inl memory ↦ inl (inl memory)
      | inr bad ↦ inr (
        bad.0,
        record_bad c.args.number rows _ is.0
            (c.deref.ensures.value ∙ ap (λ (p : ℕ × List (ℕ × Label)). p.1) c.pack.view_is ∙ is.1) bad.1,
      )
    ]))

pub returns-clause-sees : goal.returns-clause-sees
returns-clause-sees g c =
    sees_with (Ok _) (rw c.in-Some.is at c.in_ok-pack.ensures.looks)
    (λ rows is content means. record_some c.args.number rows content c.in_ok-record_of.field-0 means (sym is.0)
    (sym is.1 ∙ sym (ap (λ (p : ℕ × List (ℕ × Label)). p.1) c.pack.view_is)
    ∙ sym c.deref.ensures.value ∙ c.in_ok-record_of.ensures.read)) tt
