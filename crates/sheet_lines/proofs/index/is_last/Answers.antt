use Rattle.sheet_lines.proofs.Adding.{last_is}
use Rattle.sheet_lines.proofs.index.is_last.Goals as goal

pub returns-in-Some : goal.returns-in-Some
returns-in-Some c = last_is c.args.number c.in-Some.last.now c.args.numbers.now c.in-Some.ensures.value
