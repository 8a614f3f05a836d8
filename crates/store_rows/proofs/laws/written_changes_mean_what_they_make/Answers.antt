use Rattle.store_rows.proofs.Meaning.{changes_mean}
use Rattle.store_rows.proofs.laws.written_changes_mean_what_they_make.Goals as goal

pub returns : goal.returns
returns c = changes_mean
