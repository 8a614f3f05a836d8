use Rattle.std.proofs.Common.{◌≡◌, ◌++◌, take}
use Rattle.searching.specs.Folding.{kept}
use Rattle.searching.proofs.folding.push_all.Given as goal

abbrev pub invariant-each : goal.invariant-each
invariant-each l = l.out.items ≡ l.fn.out.items ++ kept (take l.letter-index l.letters)
