use Rattle.staged_rows.proofs.Staged.{open_import}
use Rattle.staged_rows.proofs.laws.an_open_import_is_not_seen.Goals as goal

pub returns : goal.returns
returns c = open_import
