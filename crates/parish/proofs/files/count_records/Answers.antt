use Rattle.std.proofs.Common.{inr}
use Rattle.parish.proofs.files.count_records.Goals as goal

pub returns-clause-err : goal.returns-clause-err
returns-clause-err g c = inr (record {
  forest = c.in-Ok.forest;
  read = c.in-Ok.ensures.read;
  why = rw (← c.failures-before.ensures) c.in-Err-print_count.ensures.why;
  written = rw (← c.record_count.ensures) c.in-Err-print_count.ensures.err;
})
