use Rattle.std.proofs.Common.{◌≡◌, drop}
use Rattle.std.specs.List.{flat_map}
use Rattle.archive_state.specs.Links.{line_links}
use Rattle.sound_records.specs.Standing.{first_unmet}
use Rattle.sound_records.proofs.linked.+first_on.Given as goal

abbrev pub invariant-children : goal.invariant-children
invariant-children l = first_unmet l.may_miss l.state.records
    (flat_map line_links (drop l.child-index l.child-items))
    ≡ first_unmet l.may_miss l.state.records (line_links l.line)
