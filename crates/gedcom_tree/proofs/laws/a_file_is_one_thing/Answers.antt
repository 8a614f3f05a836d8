use Rattle.gedcom_tree.proofs.Ends.{file_same, file_apart, fault_one, file_either}
use Rattle.gedcom_tree.proofs.Shaped.{reads_forest}
use Rattle.gedcom_tree.proofs.laws.a_file_is_one_thing.Goals as goal

pub returns-clause-forest : goal.returns-clause-forest
returns-clause-forest c = reads_forest

pub returns-clause-one : goal.returns-clause-one
returns-clause-one c = file_same

pub returns-clause-fault : goal.returns-clause-fault
returns-clause-fault c = fault_one

pub returns-clause-apart : goal.returns-clause-apart
returns-clause-apart c = file_apart

pub returns-clause-either : goal.returns-clause-either
returns-clause-either c = file_either
