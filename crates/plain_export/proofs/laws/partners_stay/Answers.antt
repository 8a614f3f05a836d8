use Rattle.plain_export.proofs.Standing.{same_partners}
use Rattle.plain_export.proofs.laws.partners_stay.Goals as goal

pub returns : goal.returns
returns c = same_partners
