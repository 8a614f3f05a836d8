use Rattle.gedcom_tree.proofs.Short.{text_short}
use Rattle.gedcom_tree.proofs.laws.a_line_of_a_text_is_short.Goals as goal

pub returns : goal.returns
returns c = text_short
