use Rattle.std.proofs.lemmas.Str.Pattern.{split_parts}
use Rattle.std.proofs.Common.{arith}
use Rattle.plain_export.proofs.one_line.cut.Goals as goal

pub returns : goal.returns
returns c = split_parts 10 c.args.text.now c.split_once.result c.split_once.ensures.cases (omega arith)
