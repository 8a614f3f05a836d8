use Rattle.std.proofs.Common.{refl}
use Rattle.std.specs.BTreeSet as set
use Rattle.std.specs.Ordering.{nat_cmp}
use Rattle.std.proofs.lemmas.Result.{err_from_is_err_and}
use Rattle.store_rows.specs.Grouped.{group_at}
use Rattle.store_rows.proofs.StateRecords.{none_recorded, recorded_at, refused_by}
use Rattle.store_rows.proofs.state.put_records.Goals as goal

pub rows-init : goal.rows-init
rows-init c = (
  none_recorded (set.contains nat_cmp c.args.closed.now) (group_at c.args.groups.now)
      c.args.state.now.records c.requires.none,
  refl,
)

pub returns-in_err-put_row-clause-refused : goal.returns-in_err-put_row-clause-refused
returns-in_err-put_row-clause-refused c = let p = err_from_is_err_and c.from_residual.result
    c.from_residual.ensures.1 in rw (p.1, p.2) (refused_by _
    (λ bad. (
      c.row-item.result.0,
      recorded_at (set.contains nat_cmp c.args.closed.now) (group_at c.args.groups.now)
          c.args.rows.now c.rows.row-index c.row-item.result c.rows-test.true c.row-item.is bad.0,
      bad.1,
    ))
    c.in_err-put_row.ensures.refused)
