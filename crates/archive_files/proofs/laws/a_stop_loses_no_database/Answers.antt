use Rattle.archive_files.proofs.Leaving.{left_by_stop}
use Rattle.archive_files.proofs.laws.a_stop_loses_no_database.Goals as goal

pub returns : goal.returns
returns g c = λ image after left closed t over told did held may.
    left_by_stop image after t held left closed over told did may
