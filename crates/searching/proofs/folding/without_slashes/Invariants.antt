use Rattle.std.proofs.Common.{◌≡◌, map, take}
use Rattle.searching.specs.Folding.{unslashed}
use Rattle.searching.proofs.folding.without_slashes.Given as goal

abbrev pub invariant-each : goal.invariant-each
invariant-each l = l.out.items ≡ map unslashed (take l.character-index l.characters)
