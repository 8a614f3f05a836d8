use Rattle.std.proofs.Common.{lit<}
use Rattle.std.proofs.lemmas.Str.Pattern.{split_parts}
use Rattle.page_places.proofs.ways.cut.Goals as goal

pub returns : goal.returns
returns c = split_parts 44 c.args.text.now c.split_once.result c.split_once.ensures.cases (lit< tt)
