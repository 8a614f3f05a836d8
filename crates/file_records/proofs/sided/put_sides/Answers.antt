use Rattle.std.proofs.Common.{ap, map}
use Rattle.stored_lines.specs.Tree.{forest_of}
use Rattle.node_reading.specs.Trees.{draft_tree}
use Rattle.node_reading.specs.Owners.{owned_tree}
use Rattle.file_records.proofs.sided.put_sides.Goals as goal

pub with_sides-requires-clause-kind : goal.with_sides-requires-clause-kind
with_sides-requires-clause-kind c = (c.requires.read c.in-Family.draft.family
    (forest_of (map owned_tree c.in-Family.draft.owned.items)) (ap draft_tree c.in-Family.is)).0

pub with_sides-requires-clause-read : goal.with_sides-requires-clause-read
with_sides-requires-clause-read c = (c.requires.read c.in-Family.draft.family
    (forest_of (map owned_tree c.in-Family.draft.owned.items)) (ap draft_tree c.in-Family.is)).1
