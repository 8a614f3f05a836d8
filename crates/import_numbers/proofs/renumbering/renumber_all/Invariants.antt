use Rattle.std.proofs.Common.{◌≡◌, ◌++◌, map, take, drop}
use Rattle.import_definitions.specs.Numbers.{number_at}
use Rattle.import_numbers.proofs.renumbering.renumber_all.Given as goal

abbrev pub invariant-loop-part : goal.invariant-loop-part
invariant-loop-part g l = l.parts ≡ map (g.P.Renumber.with (number_at l.numbers)) (take l.part-index l.fn.parts)
    ++ drop l.part-index l.fn.parts
