use Rattle.std.proofs.Common.{sym, ap, ◌∙◌}
use Rattle.std.proofs.lemmas.Result.{err_from_is_err_and}
use Rattle.archive_state.specs.Content.{Content}
use Rattle.store_rows.proofs.StateRecords.{refused_by}
use Rattle.store_rows.proofs.StateMeant.{no_records, no_changes, meant, put_together}
use Rattle.store_rows.proofs.state.state_of.Goals as goal

pub returns-in_err-fill_records-clause-refused : goal.returns-in_err-fill_records-clause-refused
returns-in_err-fill_records-clause-refused c =
    let p = err_from_is_err_and c.from_residual.result c.from_residual.ensures.1 in
    rw (p.1, p.2) (refused_by _ (λ bad rows same. no_records rows _ (same ∙ sym c.read.view_is)
    (rw (← c.deref.ensures.value, ← c.deref-2.ensures.value) bad)) c.in_err-fill_records.ensures.refused)

pub returns-in_err-fill_slips-clause-refused : goal.returns-in_err-fill_slips-clause-refused
returns-in_err-fill_slips-clause-refused c =
    let p = err_from_is_err_and c.from_residual-in_err-fill_slips.result c.from_residual-in_err-fill_slips.ensures.1 in
    rw (p.1, p.2) (refused_by _ (λ bad rows same. no_changes rows _ (same ∙ sym c.read.view_is)
    (rw (← c.deref-3.ensures.value) bad)) c.in_err-fill_slips.ensures.refused)

pub returns-clause-read : goal.returns-clause-read
returns-clause-read c = λ rows same. meant rows _ c.put_receipts.new.state (same ∙ sym c.read.view_is)
    (put_together _ c.set_next.new.self c.fill_records.new.state c.fill_slips.new.state c.put_receipts.new.state
    (c.set_next.ensures ∙ ap (λ (s : Content). record s { next = c.read.inside.next }) c.new-state.ensures.empty)
    c.in_ok-fill_records.ensures.others c.in_ok-fill_slips.ensures.others c.in_ok-put_receipts.ensures
    (rw (← c.deref.ensures.value) c.in_ok-fill_records.ensures.batch)
    (rw (← c.deref.ensures.value, ← c.deref-2.ensures.value) c.in_ok-fill_records.ensures.read)
    (rw (← c.deref-3.ensures.value) c.in_ok-fill_slips.ensures.read))
