use Rattle.searching.proofs.Outcome.{all_occur_says}
use Rattle.searching.proofs.laws.words_occur_where_each_begins_one.Goals as goal

pub returns : goal.returns
returns c = all_occur_says
