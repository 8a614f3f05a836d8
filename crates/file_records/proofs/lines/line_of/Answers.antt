use Rattle.std.proofs.Common.{◌∙◌}
use Rattle.stored_lines.specs.Tree.{forest_of}
use Rattle.import_definitions.specs.Lines.{place_in}
use Rattle.import_definitions.specs.Nodes.{trees_of}
use Rattle.file_records.proofs.DraftNodes.{line_is, lines_low}
use Rattle.file_records.proofs.lines.line_of.Goals as goal
use Rattle.import_definitions.proofs.Below.{below_fits}

pub invariant_of-result : goal.invariant_of-result
invariant_of-result c = lines_low (place_in c.args.roots.now) (forest_of (trees_of c.deref.result.now))
    c.in_ok-children.children.items c.in_ok-children.ensures.lines
    (below_fits c.args.node.now c.deref.result.now c.deref.ensures.value
    (record { lines = c.requires.lines; low = c.requires.low })).1

pub returns-clause-line : goal.returns-clause-line
returns-clause-line c = line_is (place_in c.args.roots.now) c.args.node.now c.deref.result.now c.deref.ensures.value
    c.in_ok-tag.tag c.in_ok-value.value c.in_ok-children.children.items (c.in_ok-tag.ensures ∙ c.as_str.ensures)
    c.in_ok-value.ensures c.in_ok-children.ensures.lines
