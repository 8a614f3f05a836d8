use Rattle.std.proofs.Common.{sym}
use Rattle.archive_output.proofs.plain_publishing.write_shown.Goals as goal

pub returns-clause-written : goal.returns-clause-written
returns-clause-written g c = rw (sym c.as_state.ensures) c.write_state.ensures.written

pub returns-clause-begun : goal.returns-clause-begun
returns-clause-begun g c = rw (sym c.as_state.ensures) c.write_state.ensures.begun
