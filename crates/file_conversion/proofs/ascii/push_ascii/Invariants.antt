use Rattle.std.proofs.Common.{◌≡◌, ◌++◌, drop, encode_utf8_all, map, string_bytes}
use Rattle.file_conversion.specs.PlainLines.{plain_character}
use Rattle.file_conversion.proofs.ascii.push_ascii.Given as goal

abbrev pub invariant-loop-unit : goal.invariant-loop-unit
invariant-loop-unit l = string_bytes l.text ++ encode_utf8_all (map plain_character (drop l.unit-index l.units))
    ≡ string_bytes l.fn.text ++ encode_utf8_all (map plain_character l.units)
