use Rattle.imports.proofs.Nodes.{batch_same}
use Rattle.imports.proofs.laws.the_batch_of_drafts_is_that_of_nodes.Goals as goal

pub returns : goal.returns
returns c = batch_same
