use Rattle.std.proofs.Common.{ap, refl, sym, ◌∙◌, length, subst}
use Rattle.std.specs.Prelude.{Some, None}
use Rattle.std.specs.List.{slice_get}
use Rattle.std.proofs.lemmas.Bool.{ltb-true}
use Rattle.std.proofs.lemmas.Option.{slice_get_past, slice_get_read}
use Rattle.import_definitions.specs.Views.{AreInFile}
use Rattle.file_records.specs.Lookups.{lines_of, nodes_below}
use Rattle.file_records.proofs.FamilyNodes.{node_at_position, node_in_file}
use Rattle.file_records.proofs.carried.below_line.Goals as goal
use Rattle.list_laws.proofs.Outcomes.{ok_more}

pub below_child-requires : goal.below_child-requires
below_child-requires c =
    let at = slice_get_read c.nodes.result.now (length c.nodes.result.now) c.args.position c.in-Some.node.now refl
    (ltb-true c.args.position (length c.nodes.result.now) (sym c.in-Some.ensures.lookup.0))
    c.in-Some.ensures.lookup.1 in
    node_in_file c.nodes.result.now c.args.position c.in-Some.node.now
    (subst AreInFile (sym c.nodes.ensures.same) c.nodes.ensures.in_file) at

pub returns-in-Some : goal.returns-in-Some
returns-in-Some c =
    let at = slice_get_read c.nodes.result.now (length c.nodes.result.now) c.args.position c.in-Some.node.now refl
    (ltb-true c.args.position (length c.nodes.result.now) (sym c.in-Some.ensures.lookup.0))
    c.in-Some.ensures.lookup.1 in
    ok_more _ _ (λ ts so. so ∙ ap (λ o. lines_of c.args.roots.now (slice_get (nodes_below o) c.args.line)) (sym (
    ap (λ us. slice_get us c.args.position) (sym c.nodes.ensures.same)
    ∙ node_at_position c.nodes.result.now c.args.position (Some c.in-Some.node.now) at)))
    c.below_child.result c.below_child.ensures

pub returns-in-None : goal.returns-in-None
returns-in-None c =
    let at = slice_get_past c.nodes.result.now c.args.position c.in-None.ensures.lookup.3 in
    c.new.ensures.items ∙ ap (λ o. lines_of c.args.roots.now (slice_get (nodes_below o) c.args.line)) (sym (
    ap (λ us. slice_get us c.args.position) (sym c.nodes.ensures.same)
    ∙ node_at_position c.nodes.result.now c.args.position None at))
