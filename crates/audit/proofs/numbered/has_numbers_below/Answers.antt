use Rattle.audit.proofs.Below.{names_below}
use Rattle.audit.proofs.numbered.has_numbers_below.Goals as goal

pub returns : goal.returns
returns c = names_below c.args.next c.args.«record».now c.record_below.result c.record_below.ensures
