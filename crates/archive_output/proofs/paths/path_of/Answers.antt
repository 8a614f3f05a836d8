use Rattle.std.proofs.Common.{◌≡◌, ◌++◌, sym, ap, ◌∙◌, arith}
use Rattle.std.specs.Prelude.{Some, None, codes, string_bytes}
use Rattle.archive_state.specs.Known.{path_of}
use Rattle.record_kinds.specs.Model as model
use Rattle.archive_output.proofs.Climbing.{ends_here, lost_above, climbs}
use Rattle.archive_output.proofs.paths.path_of.Goals as goal
use Rattle.record_shapes.proofs.Climbed.{so_far, starts}

pub above-init : goal.above-init
above-init c = sym (starts (string_bytes c.new-path.result) (path_of c.args.state.now.records c.args.place)
    c.new-path.ensures.bytes)

pub returns-in_default-parent : goal.returns-in_default-parent
returns-in_default-parent c =
    let none : c.found.inside.parent ≡ None = grind arith in
    let name = ap (λ (p : model.Place). p.name) c.found.view_is in
    let parent = ap (λ (p : model.Place). p.parent) c.found.view_is in
    ap Some (c.in_ok-push_str.ensures.bytes ∙ ap (λ l. string_bytes c.above.path ++ l) (c.as_str.ensures.same ∙ name))
    ∙ sym (c.above.invariant ∙ ends_here c.args.state.now.records c.above.at (string_bytes c.above.path)
    c.in-Some.found.now (sym c.in-Some.ensures) (sym parent ∙ none))

pub returns-then-parent-at : goal.returns-then-parent-at
returns-then-parent-at c =
    let parent = ap (λ (p : model.Place). p.parent) c.found.view_is in
    sym (c.above.invariant ∙ lost_above c.args.state.now.records c.above.at (string_bytes c.above.path)
    c.in-Some.found.now c.in-Some-parent.parent (sym c.in-Some.ensures) (sym parent ∙ c.in-Some-parent.is)
    c.if-parent-at.true)

pub above-preserved : goal.above-preserved
above-preserved c =
    let name = ap (λ (p : model.Place). p.name) c.found.view_is in
    let parent = ap (λ (p : model.Place). p.parent) c.found.view_is in
    c.above.invariant ∙ climbs c.args.state.now.records c.above.at (string_bytes c.above.path)
    c.in-Some.found.now c.in-Some-parent.parent (sym c.in-Some.ensures) (sym parent ∙ c.in-Some-parent.is)
    c.if-parent-at.false
    ∙ ap (λ f. so_far f (path_of c.args.state.now.records c.in-Some-parent.parent))
    (sym (c.in_ok-push_str-2.ensures.bytes ∙ ap (λ l. l ++ codes ", ")
    (c.in_ok-push_str.ensures.bytes ∙ ap (λ l. string_bytes c.above.path ++ l) (c.as_str.ensures.same ∙ name))))
