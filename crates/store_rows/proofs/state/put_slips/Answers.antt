use Rattle.std.proofs.Common.{refl}
use Rattle.std.proofs.lemmas.Result.{err_from_is_err_and}
use Rattle.store_rows.specs.Grouped.{slip_group_at}
use Rattle.store_rows.proofs.StateRecords.{refused_by}
use Rattle.store_rows.proofs.StateSlips.{none_slipped, row_at}
use Rattle.store_rows.proofs.state.put_slips.Goals as goal

pub rows-init : goal.rows-init
rows-init c = (none_slipped (slip_group_at c.args.groups.now) c.args.state.now.slips c.requires.none, refl)

pub returns-in_err-put_slip_row-clause-refused : goal.returns-in_err-put_slip_row-clause-refused
returns-in_err-put_slip_row-clause-refused c = let p = err_from_is_err_and c.from_residual.result
    c.from_residual.ensures.1 in rw (p.1, p.2) (refused_by _
    (λ bad. (
      c.row-item.result.no,
      row_at c.args.rows.now c.rows.row-index c.row-item.result c.rows-test.true
          c.row-item.is,
      bad,
    )) c.in_err-put_slip_row.ensures.refused)
