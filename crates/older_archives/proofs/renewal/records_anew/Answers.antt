use Rattle.std.proofs.Common.{sym, subst, take}
use Rattle.std.specs.BTreeSet as set
use Rattle.std.specs.Ordering.{nat_cmp}
use Rattle.std.proofs.lemmas.Result.{err_from_is_err_and}
use Rattle.store_rows.specs.Grouped.{group_at}
use Rattle.store_rows.proofs.StateRecords.{recorded_at, refused_by}
use Rattle.older_archives.specs.Reading.{AreRecordsAnew}
use Rattle.older_archives.proofs.Items.{taken}
use Rattle.older_archives.proofs.renewal.records_anew.Goals as goal

pub returns-in_err-add_record-clause-refused : goal.returns-in_err-add_record-clause-refused
returns-in_err-add_record-clause-refused c = let p = err_from_is_err_and c.from_residual.result
    c.from_residual.ensures.1 in rw (p.1, p.2) (refused_by _
    (λ bad. (
      c.row-item.result.0,
      recorded_at (set.contains nat_cmp c.args.closed.now) (group_at c.args.groups.now)
          c.args.rows.now c.rows.row-index c.row-item.result c.rows-test.true c.row-item.is bad.0,
      bad.1,
    ))
    c.in_err-add_record.ensures.refused)

pub rows-preserved : goal.rows-preserved
rows-preserved c =
    let rows = c.args.rows.now in
    let item = c.row-item.result in
    subst (λ all. AreRecordsAnew (set.contains nat_cmp c.args.closed.now) (group_at c.args.groups.now) all
    c.add_record.new.found.items) (sym (taken rows c.rows.row-index item c.rows-test.true c.row-item.is))
    (c.in_ok-add_record.ensures.read (take c.rows.row-index rows) c.rows.invariant)
