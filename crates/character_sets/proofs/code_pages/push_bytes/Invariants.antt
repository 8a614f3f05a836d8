use Rattle.std.proofs.Common.{◌≡◌, ◌++◌, drop, encode_utf8_all, map, string_bytes}
use Rattle.character_sets.specs.CodePages.{character}
use Rattle.character_sets.proofs.code_pages.push_bytes.Given as goal

abbrev pub invariant-loop-unit : goal.invariant-loop-unit
invariant-loop-unit l = string_bytes l.out ++ encode_utf8_all (map (character l.table) (drop l.unit-index l.units))
    ≡ string_bytes l.fn.out ++ encode_utf8_all (map (character l.table) l.units)
