-- What contracts see of the code's values.
use Rattle.gedcom_rules.specs.declared.seen.Seen.{Seen}
use Rattle.gedcom_rules.specs.Views.{progress}
use Rattle.gedcom_tree.specs.Reading.{Nodes}
use Rattle.gedcom_tree.specs.Flat.{built}
use Rattle.gedcom_tree.specs.declared.growing.Growing.{Growing}

-- the lines so far, and the nodes that are put together
abbrev pub nodes_view : Seen → Growing → Nodes
nodes_view s g = record { count = (progress s).count; items = built g.roots.items g.path.items }
