use Rattle.std.proofs.Common.{◌≡◌, ◌++◌, drop, encode_utf8_all, map, string_bytes, ℕ}
use Rattle.character_sets.proofs.ansel.push_replacements.Given as goal

abbrev pub invariant-loop-one : goal.invariant-loop-one
invariant-loop-one l = string_bytes l.out ++ encode_utf8_all (map (λ (m : ℕ). 0xFFFD) (drop l.one-index l.marks))
    ≡ string_bytes l.fn.out ++ encode_utf8_all (map (λ (m : ℕ). 0xFFFD) l.marks)
