use Rattle.std.proofs.Common.{◌≡◌}
use Rattle.std.specs.Vec.Iter.{into_iter_items, into_iter_len}
use Rattle.doubts.specs.Gathered.{seen, with_facts}
use Rattle.doubts.proofs.known.add_all.Given as goal

abbrev pub invariant-facts : goal.invariant-facts
invariant-facts l = with_facts (seen l.known) (into_iter_items l.facts) ≡ with_facts (seen l.fn.known) l.fn.facts.items

abbrev pub decreases-facts : goal.decreases-facts
decreases-facts l = into_iter_len l.facts
