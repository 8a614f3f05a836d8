-- The slip's row, then the sides of its changes in place of the lines of its number.
use Rattle.std.proofs.Common.{arith, flat_map, refl}
use Rattle.store_tables.specs.Rows.{with_slip_row}
use Rattle.store_tables.specs.Sides.{with_slip_sides}
use Rattle.store_rows.specs.Writing.{sides_stored}
use Rattle.store_rows.proofs.Dated.{row_then}
use Rattle.store_rows.proofs.writing.slip_rows.make_slip.Goals as goal

pub returns-clause-ok : goal.returns-clause-ok
returns-clause-ok g c clean =
    let n = c.args.number in
    let slip = c.slip.inside in
    let one = c.in_ok-insert_slip.ensures.ok (omega (arith, c.write_sides.ensures.survives.clean)) in
    let last = rw (c.deref-2.ensures.value, c.in_ok-sides.ensures.sides, c.deref.ensures.value) at
    (c.in_ok-write_sides.ensures.ok clean) in
    rw (← c.slip.view_is) (row_then _ _ _ (with_slip_row n slip.keep slip.gone slip.is_undone)
    (with_slip_sides n (flat_map sides_stored slip.changes.items)) (λ rows. refl) one last)

pub returns-clause-shallow : goal.returns-clause-shallow
returns-clause-shallow g c = rw (← c.slip.view_is, ← c.deref.ensures.value) c.in_ok-sides.ensures.shallow
