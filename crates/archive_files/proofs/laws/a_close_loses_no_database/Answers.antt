use Rattle.archive_files.proofs.Leaving.{left_by_close}
use Rattle.archive_files.proofs.laws.a_close_loses_no_database.Goals as goal

pub returns : goal.returns
returns g c = λ image after left closed t over told did numbered held may.
    left_by_close image after t held left closed over told did numbered may
