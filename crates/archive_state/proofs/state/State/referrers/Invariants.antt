use Rattle.std.proofs.Common.{◌≡◌, ◌++◌}
use Rattle.archive_state.specs.Referrers.{naming, referrers}
use Rattle.archive_state.proofs.state.State.referrers.Given as goal

abbrev pub invariant-records : goal.invariant-records
invariant-records l = l.found.items ++ naming l.number l.at-iterator ≡ referrers l.self l.number
