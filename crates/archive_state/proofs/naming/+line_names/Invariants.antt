use Rattle.std.proofs.Common.{◌≡◌, drop}
use Rattle.std.specs.List.{flat_map}
use Rattle.archive_state.specs.Links.{is_among, line_links}
use Rattle.archive_state.proofs.naming.+line_names.Given as goal

abbrev pub invariant-children : goal.invariant-children
invariant-children l = is_among l.number (flat_map line_links (drop l.child-index l.child-items))
    ≡ is_among l.number (line_links l.line)
