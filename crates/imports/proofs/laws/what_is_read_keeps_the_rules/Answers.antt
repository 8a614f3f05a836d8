use Rattle.imports.proofs.ReadNodes.{nodes_are_read}
use Rattle.imports.proofs.laws.what_is_read_keeps_the_rules.Goals as goal

pub returns : goal.returns
returns c = nodes_are_read
