use Rattle.older_archives.proofs.OneOldContent.{seen_anew, seen_old}
use Rattle.older_archives.proofs.laws.what_is_seen_alike_means_the_same.Goals as goal

pub returns-clause-old : goal.returns-clause-old
returns-clause-old c = seen_old

pub returns-clause-anew : goal.returns-clause-anew
returns-clause-anew c = seen_anew
