use Rattle.gedcom_tree.proofs.Ends.{file_same}
use Rattle.gedcom_tree.proofs.Again.{text_again}
use Rattle.gedcom_tree.proofs.Same.{text_settles}
use Rattle.gedcom_tree.proofs.laws.a_text_is_read_again.Goals as goal

pub returns-clause-again : goal.returns-clause-again
returns-clause-again c = text_again

pub returns-clause-settled : goal.returns-clause-settled
returns-clause-settled c = text_settles file_same
