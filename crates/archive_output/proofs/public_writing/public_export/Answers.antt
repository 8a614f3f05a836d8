use Rattle.std.proofs.Common.{sym}
use Rattle.archive_output.proofs.public_writing.public_export.Goals as goal

pub returns-clause-written : goal.returns-clause-written
returns-clause-written g c = λ sound. rw (sym c.as_state.ensures) c.export_state.ensures.written
