use Rattle.std.proofs.Common.{lit<}
use Rattle.std.proofs.lemmas.Str.Pattern.{strip_prefix_char}
use Rattle.page_entries.proofs.places.after_at.Goals as goal

pub returns : goal.returns
returns c = strip_prefix_char 64 c.args.cell.now c.strip_prefix.result c.strip_prefix.ensures.cases (lit< tt)
