use Rattle.std.proofs.Common.{◌++◌, encode_utf8_all, flat_map, string_bytes, sym, ap, ◌∙◌}
use Rattle.std.proofs.lemmas.List.{map-id}
use Rattle.std.proofs.lemmas.Iterator.{YieldsList-from_chars}
use Rattle.std.proofs.lemmas.Iterator.Consumers.{YieldsList-end}
use Rattle.html_text.specs.Escapes.{escaped_character}
use Rattle.html_text.proofs.Growing.{spelt}
use Rattle.html_text.proofs.page.push_escaped.Goals as goal

pub each-preserved : goal.each-preserved
each-preserved c = spelt escaped_character (string_bytes c.args.out.now) (string_bytes c.each.out) _ c.each.yielded
    c.in-Some.c c.each.invariant c.in_ok-push_character.ensures

pub returns : goal.returns
returns c =
    let t = YieldsList-end (YieldsList-from_chars c.args.text.now c.utf8.text cc) c.each.yielded _
    c.each.yielded_by _ _ c.in-None.is c.next.ensures.steps in
    c.each.invariant ∙ ap (λ l. string_bytes c.args.out.now ++ encode_utf8_all (flat_map escaped_character l))
    (sym (map-id c.each.yielded) ∙ t.0)
