use Rattle.file_faults.proofs.Firsts.{first_is, none_of_clean}
use Rattle.file_faults.proofs.laws.the_first_is_the_fault_of_the_file.Goals as goal

pub returns-clause-first : goal.returns-clause-first
returns-clause-first c = first_is

pub returns-clause-none : goal.returns-clause-none
returns-clause-none c = none_of_clean
