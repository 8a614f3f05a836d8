use Rattle.archive_core.proofs.Serving.{run_again}
use Rattle.archive_core.proofs.laws.no_number_is_used_twice.Goals as goal

pub returns : goal.returns
returns _ dones c after h = run_again dones c after h
