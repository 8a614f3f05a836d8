use Rattle.older_archives.proofs.OneOld.{one_old}
use Rattle.older_archives.proofs.laws.lines_were_of_one_record.Goals as goal

pub returns : goal.returns
returns c = one_old
