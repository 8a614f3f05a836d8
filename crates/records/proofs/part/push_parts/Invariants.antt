use Rattle.std.proofs.Common.{◌≡◌, ◌++◌, take, map}
use Rattle.std.specs.List.{All}
use Rattle.records.proofs.part.push_parts.Given as goal

abbrev pub invariant-parts : goal.invariant-parts
invariant-parts g l = record {
  added : l.below.items ≡ l.fn.below.items ++ map g.P.Part.kept_as (take l.part-index l.parts);
  shallow : All g.P.Part.is_shallow (take l.part-index l.parts);
}
