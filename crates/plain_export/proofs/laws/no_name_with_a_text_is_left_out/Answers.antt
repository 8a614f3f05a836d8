use Rattle.plain_export.proofs.Standing.{name_stays}
use Rattle.plain_export.proofs.laws.no_name_with_a_text_is_left_out.Goals as goal

pub returns : goal.returns
returns c = name_stays
