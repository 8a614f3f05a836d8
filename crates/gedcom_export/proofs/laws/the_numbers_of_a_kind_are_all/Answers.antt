use Rattle.gedcom_export.proofs.Whole.{numbers_are}
use Rattle.gedcom_export.proofs.laws.the_numbers_of_a_kind_are_all.Goals as goal

pub returns : goal.returns
returns c = λ es i h. numbers_are es i h.gathered
