use Rattle.import_commits.proofs.Reading.{shallow_added}
use Rattle.import_commits.proofs.laws.what_an_import_adds_can_be_read.Goals as goal

pub returns : goal.returns
returns c = shallow_added
