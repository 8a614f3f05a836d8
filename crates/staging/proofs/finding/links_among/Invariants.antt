use Rattle.std.proofs.Common.{◌≡◌, filter}
use Rattle.std.specs.BTreeSet as set
use Rattle.std.specs.Ordering.{nat_cmp}
use Rattle.store_tables.specs.Rows.{LinkRow}
use Rattle.staging.proofs.finding.links_among.Given as goal

abbrev pub invariant-links : goal.invariant-links
invariant-links l = l.found.items ≡ filter (λ (x : LinkRow). set.contains nat_cmp l.numbers x.no) l.yielded
