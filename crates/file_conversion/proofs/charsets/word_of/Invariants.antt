use Rattle.std.proofs.Common.{◌≡◌, map, string_bytes, take}
use Rattle.file_conversion.specs.Charsets.{upper}
use Rattle.file_conversion.proofs.charsets.word_of.Given as goal

abbrev pub invariant-loop-unit : goal.invariant-loop-unit
invariant-loop-unit l = string_bytes l.word ≡ map upper (take l.unit-index l.units)
