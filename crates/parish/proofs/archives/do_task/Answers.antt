use Rattle.std.proofs.Common.{refl}
use Rattle.parish.proofs.archives.do_task.Goals as goal

pub returns : goal.returns
returns g c = (c.perform_on_file-status.result.1, c.perform_on_file-status.ensures, refl)
