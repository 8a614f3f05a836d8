use Rattle.std.proofs.lemmas.Result.{err_from_is_err_and}
use Rattle.store_rows.proofs.state.slip_of.Goals as goal

pub returns-in_err-changes_at-clause-refused : goal.returns-in_err-changes_at-clause-refused
returns-in_err-changes_at-clause-refused c =
    let p = err_from_is_err_and c.from_residual.result c.from_residual.ensures.1 in
    rw (p.1, p.2, ← c.row.view_is) c.in_err-changes_at.ensures.refused
