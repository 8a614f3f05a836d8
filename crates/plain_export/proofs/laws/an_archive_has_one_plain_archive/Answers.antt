use Rattle.plain_export.proofs.Whole.{one_plain, some_plain}
use Rattle.plain_export.proofs.laws.an_archive_has_one_plain_archive.Goals as goal

pub returns-clause-some : goal.returns-clause-some
returns-clause-some c = some_plain

pub returns-clause-one : goal.returns-clause-one
returns-clause-one c = one_plain
