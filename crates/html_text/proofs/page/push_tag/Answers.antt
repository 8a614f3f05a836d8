use Rattle.std.proofs.Common.{◌<◌, length, arith}
use Rattle.std.proofs.lemmas.Grind.{common_steps}
use Rattle.html_text.specs.Pages.{attribute_text}
use Rattle.html_text.proofs.Growing.{grown}
use Rattle.html_text.proofs.page.push_tag.Goals as goal

pub each-preserved : goal.each-preserved
each-preserved c =
    let less : c.each.attribute-index < length c.args.attributes.now = grind (arith, common_steps) in
    grown attribute_text _ c.each.out.bytes.items _ c.args.attributes.now c.each.attribute-index
    c.attribute-item.result less c.attribute-item.is c.each.invariant c.in_ok-push_attribute.ensures
