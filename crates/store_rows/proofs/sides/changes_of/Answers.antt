use Rattle.std.proofs.lemmas.Result.{err_from_is_err_and, IfOk-weaker, MatchResult-weaker}
use Rattle.store_rows.proofs.SidesRead.{no_sides, no_pairs, lines_of_pairs, weaker}
use Rattle.store_rows.proofs.sides.changes_of.Goals as goal

pub returns-in_err-sides-clause-refused : goal.returns-in_err-sides-clause-refused
returns-in_err-sides-clause-refused c =
    let p = err_from_is_err_and c.from_residual.result c.from_residual.ensures.1 in
    rw (p.1, p.2) (weaker c.in_err-sides.field-0.0 (no_sides _) c.in_err-sides.ensures.refused)

pub returns-clause-read : goal.returns-clause-read
returns-clause-read c = IfOk-weaker c.paired.result _ _ (λ v e. lines_of_pairs _ _ v.items c.in_ok-sides.ensures.read e)
    c.paired.ensures.read

pub returns-clause-refused : goal.returns-clause-refused
returns-clause-refused c = MatchResult-weaker c.paired.result c.paired.ensures.refused (λ _ t. t)
    (λ kind. weaker kind (no_pairs _ _ c.in_ok-sides.ensures.read))
