use Rattle.older_archives.proofs.OnceAnew.{one_anew}
use Rattle.older_archives.proofs.laws.an_archive_is_one_archive_anew.Goals as goal

pub returns : goal.returns
returns c = one_anew
