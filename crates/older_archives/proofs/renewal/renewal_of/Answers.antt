use Rattle.std.proofs.Common.{sym, ◌∙◌}
use Rattle.std.specs.BTreeSet as set
use Rattle.std.specs.Ordering.{nat_cmp}
use Rattle.std.proofs.lemmas.Result.{err_from_is_err_and}
use Rattle.store_rows.specs.Grouped.{group_at, slip_group_at}
use Rattle.store_rows.proofs.StateRecords.{refused_by}
use Rattle.older_archives.specs.Renewing.{Renewal}
use Rattle.older_archives.proofs.Renewed.{no_record_by, no_slip_by, read_by, renewed}
use Rattle.older_archives.proofs.renewal.renewal_of.Goals as goal

pub returns-in_err-records-clause-refused : goal.returns-in_err-records-clause-refused
returns-in_err-records-clause-refused c =
    let p = err_from_is_err_and c.from_residual-in_err-records.result c.from_residual-in_err-records.ensures.1 in
    rw (p.1, p.2) (refused_by _ (λ bad rows content same means.
    no_record_by rows _ (same ∙ sym c.read.view_is) (set.contains nat_cmp c.in_ok-closed.closed)
    (group_at c.in_ok-groups.groups) (rw (← c.deref.ensures.value) c.in_ok-closed.ensures) c.in_ok-groups.ensures
    (rw (← c.deref-2.ensures.value) bad) content means) c.in_err-records.ensures.refused)

pub returns-in_err-slips-clause-refused : goal.returns-in_err-slips-clause-refused
returns-in_err-slips-clause-refused c =
    let p = err_from_is_err_and c.from_residual-in_err-slips.result c.from_residual-in_err-slips.ensures.1 in
    rw (p.1, p.2) (refused_by _ (λ bad rows content same means.
    no_slip_by rows _ (same ∙ sym c.read.view_is) (slip_group_at c.in_ok-slip_groups.slip_groups)
    c.in_ok-slip_groups.ensures (rw (← c.deref-3.ensures.value) bad) content means) c.in_err-slips.ensures.refused)

pub returns-clause-read : goal.returns-clause-read
returns-clause-read c = λ rows content same none nothing means.
    let found : Renewal = record { records = c.in_ok-records.records.items; slips = c.in_ok-slips.slips.items } in
    renewed rows found
    (read_by rows _ (same ∙ sym c.read.view_is) (set.contains nat_cmp c.in_ok-closed.closed)
    (group_at c.in_ok-groups.groups) (slip_group_at c.in_ok-slip_groups.slip_groups)
    (rw (← c.deref.ensures.value) c.in_ok-closed.ensures) c.in_ok-groups.ensures c.in_ok-slip_groups.ensures found
    (rw (← c.deref-2.ensures.value) c.in_ok-records.ensures.read)
    (rw (← c.deref-3.ensures.value) c.in_ok-slips.ensures.read)) none nothing content means
