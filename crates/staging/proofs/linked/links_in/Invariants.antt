use Rattle.std.proofs.Common.{◌≡◌, ◌++◌}
use Rattle.staging.specs.Opened.{pairs_as_links}
use Rattle.staging.proofs.linked.links_in.Given as goal

abbrev pub invariant-pairs : goal.invariant-pairs
invariant-pairs l = l.links.items ++ pairs_as_links l.pair-iterator ≡ pairs_as_links l.pairs.keys
