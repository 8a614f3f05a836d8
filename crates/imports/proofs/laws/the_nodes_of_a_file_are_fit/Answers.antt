use Rattle.imports.proofs.Filed.{files_have_nodes}
use Rattle.imports.proofs.laws.the_nodes_of_a_file_are_fit.Goals as goal

pub returns : goal.returns
returns c = files_have_nodes
