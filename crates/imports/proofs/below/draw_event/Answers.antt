use Rattle.std.proofs.Common.{◌≡◌, rules, ap, ◌∙◌, map}
use Rattle.stored_lines.specs.Tree.{forest_of}
use Rattle.record_kinds.specs.declared.record.Record.TheVariants as kind
use Rattle.import_definitions.specs.Numbers.{draw, draw_all, drawn_more, of_file}
use Rattle.import_numbers.specs.Views.{drawing_said, places_of}
use Rattle.node_reading.specs.Drafts.{event_tree, part_draft, path_in}
use Rattle.imports.proofs.Least.{read_above}
use Rattle.imports.proofs.Ways.{full_is, owes_same, owes_still}
use Rattle.imports.proofs.below.draw_event.Goals as goal

pub returns-in_err-number-clause-draws : goal.returns-in_err-number-clause-draws
returns-in_err-number-clause-draws g c =
    let d = drawing_said c.args.drawing.now in
    let parts = c.args.draft.parts.items in
    owes_still g.V.View.is_honest g.V.View.shows g.V.View.content c.args.view.now c.args.looks.now.found
    (λ x. draw (places_of x c.args.file.now) c.args.below.position c.args.below.owner d (event_tree c.args.draft))
    c.draw.new.self c.from_residual-in_err-number.result
    (λ x. full_is d.next c.draw.new.self
    (draw (places_of x c.args.file.now) c.args.below.position c.args.below.owner d (event_tree c.args.draft))
    c.in_err-number.field-0.0 c.from_residual-in_err-number.result (search rules)
    (read_above (places_of x c.args.file.now) c.args.below.position c.args.below.owner d
    (kind.Event c.args.draft.event) (path_in parts) (forest_of (map part_draft parts)))
    c.in_err-number.ensures.number)

pub returns-clause-draws : goal.returns-clause-draws
returns-clause-draws g c =
    let d = drawing_said c.args.drawing.now in
    let parts = c.args.draft.parts.items in
    let f = forest_of (map part_draft parts) in
    let said : drawing_said c.draw.new.self ≡ drawn_more d (of_file d.next c.args.below.owner
    (kind.Event c.args.draft.event) (path_in parts)) =
    c.in_ok-number.ensures.drawn
    ∙ ap (λ p. drawn_more d (of_file d.next c.args.below.owner (kind.Event c.args.draft.event) p))
    (c.in_ok-path.ensures ∙ ap path_in c.deref.ensures.value) in
    let owner : c.owned_by.result.owner ≡ d.next = c.owned_by.ensures.1 ∙ c.in_ok-number.ensures.number in
    owes_same g.V.View.is_honest g.V.View.shows g.V.View.content c.args.view.now c.draw_parts.new.view
    c.args.looks.now.found c.draw_parts.new.looks.found
    (λ x. draw_all (places_of x c.args.file.now) c.owned_by.result.position c.owned_by.result.owner
    (drawing_said c.draw.new.self) f)
    (λ x. draw (places_of x c.args.file.now) c.args.below.position c.args.below.owner d (event_tree c.args.draft))
    c.draw_parts.new.drawing c.draw_parts.result
    (λ x. λ i. draw_all (places_of x c.args.file.now) (c.owned_by.ensures.0 i) (owner i) (said i) f)
    c.draw_parts.ensures.draws
