use Rattle.packed_rows.proofs.OneText.{same_lines}
use Rattle.packed_rows.proofs.laws.one_text_has_one_list_of_lines.Goals as goal

pub returns : goal.returns
returns c = same_lines
