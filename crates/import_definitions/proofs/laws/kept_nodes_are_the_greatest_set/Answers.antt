use Rattle.import_definitions.proofs.Greatest.{kept_greatest, kept_one}
use Rattle.import_definitions.proofs.laws.kept_nodes_are_the_greatest_set.Goals as goal

pub returns-clause-greatest : goal.returns-clause-greatest
returns-clause-greatest c = kept_greatest

pub returns-clause-one : goal.returns-clause-one
returns-clause-one c = kept_one
