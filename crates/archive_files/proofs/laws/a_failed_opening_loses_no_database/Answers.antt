use Rattle.archive_files.proofs.Failed.{stays_held}
use Rattle.archive_files.proofs.laws.a_failed_opening_loses_no_database.Goals as goal

pub returns : goal.returns
returns g c = λ image after left t over told held may. stays_held image after left t over told held may
