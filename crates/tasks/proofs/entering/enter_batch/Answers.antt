use Rattle.std.proofs.Common.{inl}
use Rattle.list_laws.proofs.Outcomes.{keeps}
use Rattle.tasks.proofs.entering.enter_batch.Goals as goal

pub returns-in-Err-clause-refused : goal.returns-in-Err-clause-refused
returns-in-Err-clause-refused g c =
    rw c.text.ensures (inl (c.in-Err.ensures.refused, keeps (g.W.Write.contents c.args.output.now)))
