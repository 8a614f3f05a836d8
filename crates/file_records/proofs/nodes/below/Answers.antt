use Rattle.file_records.proofs.nodes.below.Goals as goal
use Rattle.import_definitions.proofs.Below.{below_is}

pub returns : goal.returns
returns c = below_is c.args.node.now c.deref.result.now c.deref.ensures.value
