use Rattle.std.proofs.Common.{refl}
use Rattle.gedcom_line.proofs.Doubled.{unescaped-escaped}
use Rattle.gedcom_line.proofs.Pointers.{escaped_no_pointer}
use Rattle.gedcom_line.proofs.laws.a_value_is_read_again.Goals as goal

pub returns-clause-again : goal.returns-clause-again
returns-clause-again c = unescaped-escaped

pub returns-clause-text : goal.returns-clause-text
returns-clause-text c = λ t. rw (escaped_no_pointer t) refl
