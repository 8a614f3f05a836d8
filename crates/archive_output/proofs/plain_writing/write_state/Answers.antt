use Rattle.std.proofs.Common.{inl, refl}
use Rattle.archive_output.proofs.plain_writing.write_state.Goals as goal
use Rattle.list_laws.proofs.Outcomes.{keeps}

pub returns-in-Err-clause-begun : goal.returns-in-Err-clause-begun
returns-in-Err-clause-begun g c = inl (inl refl, keeps (g.W.Write.contents c.args.writer.now))
