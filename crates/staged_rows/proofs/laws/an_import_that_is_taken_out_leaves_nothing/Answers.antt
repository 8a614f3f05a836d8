use Rattle.staged_rows.proofs.Traceless.{no_trace}
use Rattle.staged_rows.proofs.laws.an_import_that_is_taken_out_leaves_nothing.Goals as goal

pub returns : goal.returns
returns c = no_trace
