use Rattle.std.proofs.Common.{[], ◌∷◌}
use Rattle.gedcom_line.proofs.Beginnings.{begun_behind, begun_same}
use Rattle.gedcom_line.proofs.line.write.push_xref.Goals as goal
use Rattle.list_laws.proofs.Outcomes.{on_err}

pub returns-in_err-push_str-in-Some-2-clause-err : goal.returns-in_err-push_str-in-Some-2-clause-err
returns-in_err-push_str-in-Some-2-clause-err c = on_err c.from_residual-in_err-push_str-in-Some-2.result
    (rw c.in-Some.is (begun_behind _ _ _ c.in-Some.name.now (32 ∷ []) c.in_ok-push_str-in-Some.ensures.bytes
    (begun_same _ _ (32 ∷ []) c.in_err-push_str-in-Some-2.ensures.bytes)))
