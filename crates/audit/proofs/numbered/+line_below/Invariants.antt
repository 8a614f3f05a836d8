use Rattle.std.proofs.Common.{◌≡◌, drop}
use Rattle.std.specs.List.{flat_map}
use Rattle.archive_state.specs.Links.{line_links}
use Rattle.audit.specs.Below.{are_below}
use Rattle.audit.proofs.numbered.+line_below.Given as goal

abbrev pub invariant-children : goal.invariant-children
invariant-children l = are_below l.next (flat_map line_links (drop l.child-index l.child-items))
    ≡ are_below l.next (line_links l.line)
