use Rattle.older_archives.proofs.OnceAnew.{text_cases}
use Rattle.older_archives.proofs.laws.a_date_stays_or_fits_now.Goals as goal

pub returns : goal.returns
returns c = text_cases
