use Rattle.sheets.proofs.Standing.{father_at, mother_at, subject_at}
use Rattle.sheets.proofs.laws.a_pedigree_is_numbered_by_ancestors.Goals as goal

pub returns : goal.returns
returns c = record { subject = subject_at; father = father_at; mother = mother_at }
