use Rattle.std.proofs.Common.{◌++◌, List, ap}
use Rattle.std.specs.Prelude.{map, None}
use Rattle.std.specs.Global.{Global}
use Rattle.std.specs.Map.{values_of}
use Rattle.std.specs.declared.string.String.{String}
use Rattle.sheets.specs.Gathered.{gathered}
use Rattle.html_lists.specs.Letters.{after_parts, text_entry}
use Rattle.html_lists.proofs.letters.push_all.Goals as goal

pub all-init : goal.all-init
all-init c =
    let gives = c.into_iter-surname-iterator.ensures.into_iter_gives in
    ap (λ (es : List (String Global × String Global)). c.args.out.now
    ++ after_parts (gathered c.args.library.now.records) None (values_of (map text_entry es))) gives.0
