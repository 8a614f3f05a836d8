use Rattle.std.proofs.Common.{◌≡◌, take, map}
use Rattle.records.specs.Reading.{under}
use Rattle.records.proofs.part.parts_at.Given as goal

abbrev pub invariant-branches : goal.invariant-branches
invariant-branches g l = l.parts.items ≡ map g.P.Part.read_of (under l.field (take l.branch-index l.branches))
