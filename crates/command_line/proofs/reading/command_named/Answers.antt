use Rattle.std.proofs.Common.{refl}
use Rattle.command_line.proofs.reading.command_named.Goals as goal

pub returns-in-init-clause-words : goal.returns-in-init-clause-words
returns-in-init-clause-words c = (c.word_of.ensures, c.word_of-in-init.ensures)

pub returns-in-apply-clause-words : goal.returns-in-apply-clause-words
returns-in-apply-clause-words c = (
  c.word_of-in-apply.ensures,
  rw (c.is_yes.ensures, c.word_of-in-apply-2.ensures) refl,
  c.given_word.ensures,
)

pub returns-in-import-clause-words : goal.returns-in-import-clause-words
returns-in-import-clause-words c = (
  c.word_of-in-import.ensures,
  c.word_of-in-import-2.ensures,
  rw (c.is_yes-in-import.ensures, c.word_of-in-import-3.ensures) refl,
  c.given_word-in-import.ensures,
)
