use Rattle.std.proofs.Common.{◌≡◌, ◌++◌}
use Rattle.std.specs.Prelude.{map}
use Rattle.std.specs.Ordering.{nat_cmp}
use Rattle.std.specs.FinMap.{keys, from_entries}
use Rattle.archive_state.proofs.state.keys_of.Given as goal

abbrev pub invariant-entries : goal.invariant-entries
invariant-entries g l = l.found.items ++ map (λ e. e.0) l.at-iterator
    ≡ keys (from_entries {R = nat_cmp} l.entries.entries)
