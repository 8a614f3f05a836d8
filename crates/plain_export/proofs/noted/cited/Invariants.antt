use Rattle.std.proofs.Common.{◌≡◌, take}
use Rattle.plain_export.specs.Added as adding
use Rattle.plain_export.proofs.noted.cited.Given as goal

abbrev pub invariant-noted : goal.invariant-noted
invariant-noted l = l.numbers.items ≡ adding.cited (take l.x-index l.noted)
