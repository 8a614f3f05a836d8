use Rattle.std.proofs.lemmas.Str.Pattern.{split_parts}
use Rattle.packed_rows.proofs.Found.{cut_found}
use Rattle.packed_rows.proofs.cutting.cut.Goals as goal

pub returns : goal.returns
returns c = cut_found c.args.mark c.args.text.now c.split_once.result
    (split_parts c.args.mark c.args.text.now c.split_once.result c.split_once.ensures.cases c.requires)
