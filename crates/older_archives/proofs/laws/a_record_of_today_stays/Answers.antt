use Rattle.older_archives.proofs.OnceAnew.{record_stays}
use Rattle.older_archives.proofs.laws.a_record_of_today_stays.Goals as goal

pub returns : goal.returns
returns c = record_stays
