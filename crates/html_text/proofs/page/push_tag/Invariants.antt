use Rattle.std.proofs.Common.{◌≡◌, ◌++◌, string_bytes, flat_map, take}
use Rattle.html_text.specs.Pages.{attribute_text}
use Rattle.html_text.proofs.page.push_tag.Given as goal

abbrev pub invariant-each : goal.invariant-each
invariant-each l = string_bytes l.out ≡ string_bytes l.initial.out
    ++ flat_map attribute_text (take l.attribute-index l.attributes)
