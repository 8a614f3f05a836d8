use Rattle.std.proofs.Common.{ap, ◌∙◌}
use Rattle.node_reading.specs.Trees.{draft_tree}
use Rattle.import_definitions.specs.Lines.{place_in, roots}
use Rattle.import_definitions.specs.Nodes.{tree_of}
use Rattle.import_definitions.specs.Positions.{known_before}
use Rattle.import_definitions.specs.Sides.{root_with_sides}
use Rattle.file_records.specs.Drafts.{as_line}
use Rattle.file_records.proofs.DraftFamilies.{family_read}
use Rattle.file_records.proofs.DraftNodes.{read_is, root_at, within}
use Rattle.file_records.proofs.drafts.draft_of_root.Goals as goal

pub slice_bounds-earlier-end : goal.slice_bounds-earlier-end
slice_bounds-earlier-end c = within c.args.roots.now c.args.paths.now c.args.position (tree_of c.args.node.now)
    c.requires.paths c.requires.at

pub put_sides-requires-clause-read : goal.put_sides-requires-clause-read
put_sides-requires-clause-read c =
    let ks = c.args.roots.now in
    let k = c.args.position in
    let r = as_line (place_in ks) (tree_of c.args.node.now) in
    family_read (roots ks) (known_before (roots ks) k) k r (root_at ks k (tree_of c.args.node.now) c.requires.at)
    (draft_tree c.in_ok-draft.draft) (read_is ks c.args.paths.now k (draft_tree c.in_ok-draft.draft) c.in_ok-line.line r
    c.requires.paths c.in_ok-line.ensures.line c.in_ok-draft.ensures)

pub returns-clause-draft : goal.returns-clause-draft
returns-clause-draft c =
    let ks = c.args.roots.now in
    let k = c.args.position in
    c.fit_draft.ensures ∙ c.in_ok-put_sides.ensures ∙ ap (root_with_sides (roots ks) k) (read_is ks c.args.paths.now k
    (draft_tree c.in_ok-draft.draft) c.in_ok-line.line (as_line (place_in ks) (tree_of c.args.node.now))
    c.requires.paths c.in_ok-line.ensures.line c.in_ok-draft.ensures)
