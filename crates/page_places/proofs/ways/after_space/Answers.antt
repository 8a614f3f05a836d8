use Rattle.std.proofs.Common.{lit<}
use Rattle.std.proofs.lemmas.Str.Pattern.{strip_prefix_char}
use Rattle.page_places.proofs.ways.after_space.Goals as goal

pub returns : goal.returns
returns c = strip_prefix_char 32 c.args.text.now c.strip_prefix.result c.strip_prefix.ensures.cases (lit< tt)
