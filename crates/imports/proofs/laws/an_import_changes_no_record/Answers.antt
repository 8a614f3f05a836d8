use Rattle.imports.proofs.SoundStanding.{records_stand}
use Rattle.imports.proofs.laws.an_import_changes_no_record.Goals as goal

pub returns : goal.returns
returns c = records_stand
