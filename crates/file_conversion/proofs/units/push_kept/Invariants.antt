use Rattle.std.proofs.Common.{◌≡◌, ◌++◌, drop, filter}
use Rattle.file_conversion.specs.Conversion.{is_kept}
use Rattle.file_conversion.proofs.units.push_kept.Given as goal

abbrev pub invariant-loop-unit : goal.invariant-loop-unit
invariant-loop-unit l = l.all.items ++ filter is_kept (drop l.unit-index l.units)
    ≡ l.fn.all.items ++ filter is_kept l.units
