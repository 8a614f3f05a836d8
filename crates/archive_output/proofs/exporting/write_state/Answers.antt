use Rattle.archive_output.proofs.Exported.{own_part}
use Rattle.archive_output.proofs.exporting.write_state.Goals as goal

pub returns-in-Err-clause-begun : goal.returns-in-Err-clause-begun
returns-in-Err-clause-begun g c = own_part c.in-Err.refusal.kind c.in-Err.ensures.own c.in-Err.ensures.written
