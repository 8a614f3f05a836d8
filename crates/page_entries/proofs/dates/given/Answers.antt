use Rattle.commands.proofs.Dated.{given_same}
use Rattle.page_entries.proofs.dates.given.Goals as goal

pub returns : goal.returns
returns c = given_same c.args.words.now c.of_words.result c.of_words.ensures.gives
