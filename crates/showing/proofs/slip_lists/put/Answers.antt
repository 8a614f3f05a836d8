use Rattle.showing.proofs.Unused.{one_put}
use Rattle.showing.proofs.slip_lists.put.Goals as goal

pub returns : goal.returns
returns c = one_put c.args.found.now c.insert.new.self c.args.number c.in_ok-insert.ensures.updates.0
