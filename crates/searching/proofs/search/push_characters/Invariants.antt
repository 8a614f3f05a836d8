use Rattle.std.proofs.Common.{◌≡◌, ◌++◌, drop, encode_utf8_all, string_bytes}
use Rattle.searching.proofs.search.push_characters.Given as goal

abbrev pub invariant-each : goal.invariant-each
invariant-each l = string_bytes l.out ++ encode_utf8_all (drop l.c-index l.word)
    ≡ string_bytes l.fn.out ++ encode_utf8_all l.word
