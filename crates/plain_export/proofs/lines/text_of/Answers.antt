use Rattle.std.proofs.Common.{inr}
use Rattle.plain_export.proofs.lines.text_of.Goals as goal

pub returns-in-None-clause-refused : goal.returns-in-None-clause-refused
returns-in-None-clause-refused c = inr c.in-None.ensures
