use Rattle.parish.specs.Ends.{not_utf8_text}
use Rattle.parish.proofs.command.refuse_command_line.Goals as goal

pub returns-else-eq-clause-words : goal.returns-else-eq-clause-words
unfolding not_utf8_text
returns-else-eq-clause-words g c = λ other. (c.refuse_words.ensures.status, c.refuse_words.ensures.reported)
