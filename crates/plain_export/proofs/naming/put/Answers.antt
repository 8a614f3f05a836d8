use Rattle.plain_export.proofs.Getting.{one_got}
use Rattle.plain_export.proofs.naming.put.Goals as goal

pub returns : goal.returns
returns c = one_got c.args.named.now c.insert.new.self c.args.number c.in_ok-insert.ensures.updates.0
