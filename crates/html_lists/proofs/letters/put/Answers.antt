use Rattle.std.proofs.Common.{◌∙◌, ap}
use Rattle.std.specs.Prelude.{map}
use Rattle.html_lists.specs.Letters.{text_entry}
use Rattle.html_lists.proofs.Arranging.{put_text}
use Rattle.html_lists.proofs.letters.put.Goals as goal

pub returns : goal.returns
returns c =
    ap (map text_entry) c.in_ok-insert.ensures.entries
    ∙ put_text c.args.found.now.entries c.args.order c.args.surname
