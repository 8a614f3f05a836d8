use Rattle.std.proofs.Common.{sym, ◌∙◌}
use Rattle.csv.proofs.RecordFacts.{field-get, field-there}
use Rattle.request_csv.proofs.fields.text_at.Goals as goal

pub returns-in-Ok : goal.returns-in-Ok
returns-in-Ok c =
    let has = rw c.in-Some.is at c.get.ensures.value in
    let same = field-get _ _ _ (sym has) in
    (c.in-Ok.ensures.cases.0 ∙ sym same, rw same c.in-Ok.ensures.cases.1)

pub returns-in-Err : goal.returns-in-Err
returns-in-Err c = λ u.
    let has = rw c.in-Some.is at c.get.ensures.value in
    let same = field-get _ _ _ (sym has) in
    c.in-Err.ensures.cases.0 (rw same at u)

pub returns-in-None : goal.returns-in-None
returns-in-None c =
    let none = rw c.in-None.is at c.get.ensures.value in
    absurd (field-there _ _ c.requires (sym none))
