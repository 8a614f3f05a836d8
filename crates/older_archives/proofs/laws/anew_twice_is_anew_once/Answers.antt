use Rattle.older_archives.proofs.OnceAnew.{anew_again}
use Rattle.older_archives.proofs.laws.anew_twice_is_anew_once.Goals as goal

pub returns : goal.returns
returns c = anew_again
