use Rattle.std.proofs.Common.{◌≡◌, drop}
use Rattle.records.specs.Reading.{under, first}
use Rattle.records.proofs.reading.first_under.Given as goal

-- what is left has the same first one
abbrev pub invariant-branches : goal.invariant-branches
invariant-branches l = first (under l.field (drop l.branch-index l.branches)) ≡ first (under l.field l.branches)
