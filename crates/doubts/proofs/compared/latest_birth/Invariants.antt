use Rattle.std.proofs.Common.{◌≡◌, take}
use Rattle.doubts.specs.Doubts.{latest_birth}
use Rattle.doubts.specs.Gathered.{seen}
use Rattle.doubts.proofs.compared.latest_birth.Given as goal

abbrev pub invariant-each : goal.invariant-each
invariant-each l = l.day ≡ latest_birth (seen l.known) (take l.partner-index l.partners)
