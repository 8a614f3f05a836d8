use Rattle.gedcom_line.proofs.Lengths.{spelling_chars, canonical_short, pointer_chars}
use Rattle.gedcom_line.proofs.laws.a_line_is_short.Goals as goal

pub returns-clause-line : goal.returns-clause-line
returns-clause-line c = spelling_chars

pub returns-clause-parts : goal.returns-clause-parts
returns-clause-parts c = canonical_short

pub returns-clause-pointer : goal.returns-clause-pointer
returns-clause-pointer c = pointer_chars
