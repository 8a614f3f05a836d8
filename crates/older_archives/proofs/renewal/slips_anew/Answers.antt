use Rattle.std.proofs.Common.{ap, sym, subst, take}
use Rattle.std.proofs.lemmas.Result.{err_from_is_err_and}
use Rattle.store_tables.specs.Rows.{SlipRow}
use Rattle.store_rows.specs.Grouped.{slip_group_at}
use Rattle.store_rows.proofs.StateRecords.{refused_by}
use Rattle.older_archives.specs.Reading.{AreSlipsAnew, WereNoChanges}
use Rattle.older_archives.proofs.Items.{slip_at, taken}
use Rattle.older_archives.proofs.renewal.slips_anew.Goals as goal

pub returns-in_err-add_slip-clause-refused : goal.returns-in_err-add_slip-clause-refused
returns-in_err-add_slip-clause-refused c = let p = err_from_is_err_and c.from_residual.result
    c.from_residual.ensures.1 in rw (p.1, p.2) (refused_by c.in_err-add_slip.field-0.0
    (λ bad. (
      c.row-item.result.no,
      slip_at c.args.rows.now c.rows.row-index c.row-item.result c.rows-test.true c.row-item.is,
      subst (λ n. WereNoChanges (slip_group_at c.args.groups.now n)) (ap (λ (r : SlipRow). r.no) c.row.view_is) bad,
    )) c.in_err-add_slip.ensures.refused)

pub rows-preserved : goal.rows-preserved
rows-preserved c =
    let rows = c.args.rows.now in
    let item = c.row-item.result in
    subst (λ all. AreSlipsAnew (slip_group_at c.args.groups.now) all c.add_slip.new.found.items)
    (sym (taken rows c.rows.row-index item c.rows-test.true c.row-item.is))
    (c.in_ok-add_slip.ensures.read (take c.rows.row-index rows) item (sym (ap (λ (r : SlipRow). r.no) c.row.view_is))
    c.rows.invariant)
