use Rattle.std.proofs.Common.{ℕ, sym, ap, ◌∙◌}
use Rattle.std.specs.BTreeSet as set
use Rattle.std.specs.Ordering.{nat_cmp}
use Rattle.std.proofs.lemmas.Result.{err_from_is_err_and}
use Rattle.archive_state.specs.Content.{Records}
use Rattle.store_rows.specs.Grouped.{group_at}
use Rattle.store_rows.proofs.StateRecords.{one_recorded, refused_by}
use Rattle.store_rows.proofs.state.put_row.Goals as goal

pub returns-in_err-found-clause-refused : goal.returns-in_err-found-clause-refused
returns-in_err-found-clause-refused c = let p = err_from_is_err_and c.from_residual.result c.from_residual.ensures.1 in
    rw (p.1, p.2, ← c.row.view_is)
    (refused_by _ (λ none. (sym c.contains.ensures ∙ c.if-contains.true, none)) c.in_err-found.ensures.refused)

pub returns-in_ok-put_record-clause-read : goal.returns-in_ok-put_record-clause-read
returns-in_ok-put_record-clause-read c = λ rows was.
    let m : Records = c.args.state.now.records in
    rw (c.in_ok-put_record.ensures, ap (λ (r : ℕ × ℕ). r.0) c.row.view_is)
    (one_recorded (set.contains nat_cmp c.args.closed.now) (group_at c.args.groups.now) rows c.args.row.now m
    c.in_ok-found.found
    (rw (← c.row.view_is) (sym c.contains.ensures ∙ c.if-contains.true))
    (rw (← c.row.view_is) c.in_ok-found.ensures.read) was)
