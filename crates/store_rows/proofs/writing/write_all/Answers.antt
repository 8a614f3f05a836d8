-- One part of the changes after the other.
use Rattle.std.proofs.Common.{arith}
use Rattle.store_tables.specs.Rows.{Rows, with_next}
use Rattle.store_tables.proofs.Calls.{follows_then, on_ok}
use Rattle.store_rows.specs.Writing.{with_puts_written, without_records, with_kept_written, with_slip_written}
use Rattle.store_rows.proofs.Dated.{row_then}
use Rattle.store_rows.proofs.SpansAside.{still}
use Rattle.store_rows.proofs.writing.write_all.Goals as goal

pub returns-clause-ok : goal.returns-clause-ok
returns-clause-ok g c clean =
    let changes = c.changes.inside in
    let puts = changes.puts.items in
    let removals = changes.removals.items in
    let slip = with_slip_written changes.slip in
    let kept = with_kept_written changes.kept in
    let next = with_next changes.next in
    let last = c.write_slip.ensures.ok clean in
    let three = c.in_ok-write_kept.ensures.ok (omega (arith, c.write_slip.ensures.survives.clean)) in
    let two = c.in_ok-set_next.ensures.ok
    (omega (arith, c.write_kept.ensures.survives.clean, c.write_slip.ensures.survives.clean)) in
    let one = rw (c.deref.ensures.value, c.deref-2.ensures.value) at (c.in_ok-write_records.ensures.ok
    (omega (
      arith,
      c.set_next.ensures.survives.clean,
      c.write_kept.ensures.survives.clean,
      c.write_slip.ensures.survives.clean,
    ))) in
    let records = λ (rows : Rows). without_records removals (with_puts_written puts rows) in
    let first = follows_then _ _ _ (λ rows. next (records rows)) kept (follows_then _ _ _ records next one two) three in
    rw (← c.changes.view_is) (on_ok c.write_slip.result
    (row_then _ _ _ (λ rows. kept (next (records rows))) slip
    (λ rows. still puts removals changes.next changes.kept rows) first) last)
