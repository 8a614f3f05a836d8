use Rattle.html_text.specs.Pages.{doctype}
use Rattle.html_parts.specs.Parts.{part_text}
use Rattle.html_parts.proofs.Growing.{then_next}
use Rattle.html_parts.proofs.writing.write_page.Goals as goal

pub parts-preserved : goal.parts-preserved
parts-preserved c =
    then_next part_text c.args.parts.now c.parts.part-index c.part-item.result doctype _ _ c.parts-test.true
    c.part-item.is c.in_ok-push_part.ensures c.parts.invariant
