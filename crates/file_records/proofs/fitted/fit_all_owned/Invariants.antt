use Rattle.std.proofs.Common.{◌≡◌, map}
use Rattle.node_reading.specs.Owners.{owned_tree}
use Rattle.file_records.proofs.fitted.fit_all_owned.Given as goal

abbrev pub invariant-loop-one : goal.invariant-loop-one
invariant-loop-one l = map owned_tree l.one-items ≡ map owned_tree l.initial.one-items
