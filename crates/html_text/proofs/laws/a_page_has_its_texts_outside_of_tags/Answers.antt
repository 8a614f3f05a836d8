use Rattle.html_text.proofs.Tags.{all_left}
use Rattle.html_text.proofs.laws.a_page_has_its_texts_outside_of_tags.Goals as goal

pub returns : goal.returns
returns c pieces = all_left pieces
