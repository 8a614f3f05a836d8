use Rattle.std.proofs.Common.{sym, ◌∙◌}
use Rattle.std.proofs.lemmas.Result.{err_from_is_err_and}
use Rattle.store_rows.proofs.StateRecords.{refused_by}
use Rattle.older_archives.proofs.renewal.add_record.Goals as goal

pub returns-in_err-anew-clause-refused : goal.returns-in_err-anew-clause-refused
returns-in_err-anew-clause-refused c = let p = err_from_is_err_and c.from_residual.result c.from_residual.ensures.1 in
    rw (p.1, p.2, ← c.row.view_is)
    (refused_by _ (λ none. (sym c.contains.ensures ∙ c.if-contains.true, none)) c.in_err-anew.ensures.refused)
