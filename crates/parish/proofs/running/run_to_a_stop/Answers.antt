use Rattle.std.proofs.Common.{None}
use Rattle.parish.proofs.running.run_to_a_stop.Goals as goal

pub returns : goal.returns
returns g c = record {
  stopped = λ bytes seen unseen after input empty wrote as_told may.
      c.command-left.ensures.carries bytes seen unseen None after
      (record { reads = input; begins = empty; writes = wrote }) tt (c.stop_file.ensures.found _ after as_told may);
}
