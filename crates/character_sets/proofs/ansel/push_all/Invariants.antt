use Rattle.std.proofs.Common.{◌≡◌, ◌++◌, drop, encode_utf8_all, string_bytes}
use Rattle.character_sets.proofs.ansel.push_all.Given as goal

abbrev pub invariant-loop-one : goal.invariant-loop-one
invariant-loop-one l = string_bytes l.out ++ encode_utf8_all (drop l.one-index l.characters)
    ≡ string_bytes l.fn.out ++ encode_utf8_all l.characters
