use Rattle.std.proofs.Common.{inl}
use Rattle.list_laws.proofs.Outcomes.{keeps}
use Rattle.tasks.proofs.importing.import_read.Goals as goal

pub returns-clause-refused : goal.returns-clause-refused
returns-clause-refused g c =
    rw c.text.ensures (λ file read.
    inl (c.in-Err.ensures.refused file read, keeps (g.W.Write.contents c.args.output.now)))
