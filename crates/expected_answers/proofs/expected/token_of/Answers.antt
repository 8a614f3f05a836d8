use Rattle.std.proofs.Common.{sym}
use Rattle.csv.proofs.RecordFacts.{field-get}
use Rattle.row_references.proofs.InPlace.{none_empty}
use Rattle.expected_answers.proofs.expected.token_of.Goals as goal

pub returns-in-Some : goal.returns-in-Some
returns-in-Some c = let has = rw c.in-Some.is at c.get.ensures.value in sym (field-get _ _ _ (sym has))

pub returns-in-None : goal.returns-in-None
returns-in-None c = let none = rw c.in-None.is at c.get.ensures.value in sym (none_empty _ _ (sym none))
