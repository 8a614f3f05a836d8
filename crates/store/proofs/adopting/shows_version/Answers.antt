use Rattle.std.proofs.Common.{◌∙◌, ap, inl, inr, not}
use Rattle.sqlite.specs.Held.{state}
use Rattle.store_tables.proofs.Asking.{shown_same}
use Rattle.store.proofs.Adopted.{settled_again}
use Rattle.store.proofs.adopting.shows_version.Goals as goal

pub returns-in-Ok-clause-settled : goal.returns-in-Ok-clause-settled
returns-in-Ok-clause-settled g c clean is rows leaves =
    let old = state g.S.Store c.args.conn.now in
    let new = state g.S.Store c.check_version.new.conn in
    let shown = c.in-Ok.ensures.version clean in
    let same = shown_same old new shown.0 shown.1 in
    let here = g.met.S.Store.stays c.check_version.new.conn.store same.0.is_open in
    let was : old.may_leave new.committed.trees = elim (c.in-Ok.ensures.survives.crash clean new.committed.trees here)
    [ inl before ↦ before | inr none ↦ absurd none ] in
    settled_again new same.0.is_open c.in-Ok.ensures.ended
    (c.is_autocommit.ensures.settled (c.is_autocommit.ensures.value ∙ ap not c.in-Ok.ensures.ended) same.0.is_open)
    c.schema.ensures.live rows (leaves new.committed.trees was)
