use Rattle.archive_core.proofs.Serving.{run_sound}
use Rattle.archive_core.proofs.laws.a_run_keeps_an_archive_sound.Goals as goal

pub returns : goal.returns
returns _ dones c after words sound h = run_sound dones c after words sound h
