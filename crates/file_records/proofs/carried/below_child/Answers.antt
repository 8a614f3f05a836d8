use Rattle.std.proofs.Common.{ap, refl, sym, ◌∙◌, length}
use Rattle.std.specs.Prelude.{Some, None}
use Rattle.std.specs.List.{slice_get}
use Rattle.std.proofs.lemmas.Bool.{ltb-true}
use Rattle.std.proofs.lemmas.Option.{slice_get_past, slice_get_read}
use Rattle.file_records.specs.Lookups.{lines_of}
use Rattle.file_records.proofs.FamilyNodes.{child_at, child_in_file}
use Rattle.file_records.proofs.carried.below_child.Goals as goal
use Rattle.import_definitions.proofs.Below.{below_is}
use Rattle.list_laws.proofs.Outcomes.{ok_more}

pub lines_below-requires : goal.lines_below-requires
lines_below-requires c =
    let at = slice_get_read c.deref.result.now (length c.deref.result.now) c.args.line c.in-Some.child.now refl
    (ltb-true c.args.line (length c.deref.result.now) (sym c.in-Some.ensures.lookup.0)) c.in-Some.ensures.lookup.1 in
    child_in_file c.args.node.now c.deref.result.now c.args.line c.in-Some.child.now c.deref.ensures.value
    (record { lines = c.requires.lines; low = c.requires.low }) at

pub returns-in-Some : goal.returns-in-Some
returns-in-Some c =
    let at = slice_get_read c.deref.result.now (length c.deref.result.now) c.args.line c.in-Some.child.now refl
    (ltb-true c.args.line (length c.deref.result.now) (sym c.in-Some.ensures.lookup.0)) c.in-Some.ensures.lookup.1 in
    ok_more _ _ (λ ts so. so ∙ ap (lines_of c.args.roots.now) (sym (
    ap (λ us. slice_get us c.args.line) (sym (below_is c.args.node.now c.deref.result.now c.deref.ensures.value))
    ∙ child_at c.deref.result.now c.args.line (Some c.in-Some.child.now) at)))
    c.lines_below.result c.lines_below.ensures

pub returns-in-None : goal.returns-in-None
returns-in-None c =
    let at = slice_get_past c.deref.result.now c.args.line c.in-None.ensures.lookup.3 in
    c.new.ensures.items ∙ ap (lines_of c.args.roots.now) (sym (
    ap (λ us. slice_get us c.args.line) (sym (below_is c.args.node.now c.deref.result.now c.deref.ensures.value))
    ∙ child_at c.deref.result.now c.args.line None at))
