use Rattle.gedcom_line.proofs.Pointers.{pointer_meant, meant_pointer}
use Rattle.gedcom_line.proofs.laws.a_pointer_is_a_cross_reference.Goals as goal

pub returns-clause-found : goal.returns-clause-found
returns-clause-found c = pointer_meant

pub returns-clause-is : goal.returns-clause-is
returns-clause-is c = meant_pointer
