use Rattle.std.proofs.Common.{◌≡◌, true, take}
use Rattle.std.specs.List.{list_any}
use Rattle.masking.specs.Life.{buries}
use Rattle.masking.specs.Sets.{Gets}
use Rattle.masking.proofs.sets.add_buried.Given as goal

abbrev pub invariant-mentions : goal.invariant-mentions
invariant-mentions l = Gets l.fn.numbers l.numbers (λ n. list_any (buries n) (take l.mention-index l.mentions) ≡ true)
