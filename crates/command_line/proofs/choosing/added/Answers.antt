use Rattle.command_line.specs.Meanings.{search_words}
use Rattle.command_line.proofs.Telling.{says_some}
use Rattle.command_line.proofs.choosing.added.Goals as goal

pub returns-clause-some : goal.returns-clause-some
returns-clause-some c = says_some (search_words c.args.word.now) c.add.result c.add.ensures.some
