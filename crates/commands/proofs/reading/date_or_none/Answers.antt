use Rattle.commands.proofs.Dated.{given_same}
use Rattle.commands.proofs.reading.date_or_none.Goals as goal

pub returns : goal.returns
returns c = given_same c.args.field.now c.of_words.result c.of_words.ensures.gives
