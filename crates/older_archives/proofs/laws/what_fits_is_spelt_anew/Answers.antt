use Rattle.older_archives.proofs.OnceAnew.{new_date_is}
use Rattle.older_archives.proofs.laws.what_fits_is_spelt_anew.Goals as goal

pub returns : goal.returns
returns c = new_date_is
