use Rattle.archive_files.proofs.Refusing.{unopened}
use Rattle.archive_files.proofs.opening.open_file.Goals as goal

pub returns-in-Err-clause-refused : goal.returns-in-Err-clause-refused
returns-in-Err-clause-refused g c = unopened _ c.in-Err.left c.in-Err.ensures.unopened
