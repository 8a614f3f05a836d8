use Rattle.std.proofs.Common.{◌≡◌, ◌++◌, encode_utf8_all, string_bytes, flat_map}
use Rattle.html_text.specs.Escapes.{escaped_character}
use Rattle.html_text.proofs.page.push_escaped.Given as goal

abbrev pub invariant-each : goal.invariant-each
invariant-each l = string_bytes l.out ≡ string_bytes l.fn.out
    ++ encode_utf8_all (flat_map escaped_character l.yielded)
