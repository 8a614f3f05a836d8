use Rattle.std.proofs.Common.{◌≡◌, [], take}
use Rattle.staged_rows.specs.Staging.{with_names}
use Rattle.staging.specs.Opened.{pairs_as_links}
use Rattle.staging.proofs.linked.links_of_puts.Given as goal

abbrev pub invariant-puts : goal.invariant-puts
invariant-puts l = pairs_as_links l.pairs.keys ≡ with_names (take l.put-index l.puts) []
