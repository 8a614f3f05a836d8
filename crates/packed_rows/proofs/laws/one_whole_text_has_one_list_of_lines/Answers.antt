use Rattle.packed_rows.proofs.OneText.{same_whole}
use Rattle.packed_rows.proofs.laws.one_whole_text_has_one_list_of_lines.Goals as goal

pub returns : goal.returns
returns c = same_whole
