use Rattle.file_records.proofs.AllSaid.{all_said}
use Rattle.file_records.proofs.laws.what_is_said_is_what_an_import_reports.Goals as goal

pub returns : goal.returns
returns c = all_said
