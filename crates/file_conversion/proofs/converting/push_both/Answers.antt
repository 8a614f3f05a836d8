use Rattle.file_conversion.proofs.Written.{two_parts}
use Rattle.file_conversion.proofs.converting.push_both.Goals as goal

pub returns : goal.returns
returns c = two_parts _ _ _ _ _ c.in_ok-push_units.ensures c.in_ok-push_text.ensures
