use Rattle.searching.proofs.Outcome.{found_by_own}
use Rattle.searching.proofs.laws.a_text_is_found_by_its_words.Goals as goal

pub returns : goal.returns
returns c = found_by_own
