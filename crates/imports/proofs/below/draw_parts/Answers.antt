use Rattle.std.proofs.Common.{◌≡◌, ◌∷◌, rules, map}
use Rattle.std.specs.Vec.Iter.{into_iter_items}
use Rattle.stored_lines.specs.Tree.{forest_of}
use Rattle.import_definitions.specs.Numbers.{draw, draw_all}
use Rattle.import_numbers.specs.Views.{drawing_said, places_of}
use Rattle.node_reading.specs.Drafts.{part_draft}
use Rattle.imports.proofs.Least.{one_above}
use Rattle.imports.proofs.Ways.{way_stopped}
use Rattle.imports.proofs.below.draw_parts.Goals as goal

pub returns-in_err-draw_part-clause-draws : goal.returns-in_err-draw_part-clause-draws
returns-in_err-draw_part-clause-draws g c =
    let k = c.args.below.position in
    let n = c.args.below.owner in
    let d = drawing_said c.parts.drawing in
    let left = into_iter_items c.parts.part-iterator in
    let items : left ≡ c.in-Some.part ∷ into_iter_items c.next.new.self = search rules in
    way_stopped g.V.View.is_honest g.V.View.shows g.V.View.content c.args.view.now c.parts.view c.draw_part.new.view
    c.args.looks.now.found c.parts.looks.found c.draw_part.new.looks.found c.parts.drawing c.draw_part.new.drawing
    (λ x. draw_all (places_of x c.args.file.now) k n (drawing_said c.args.drawing.now)
    (forest_of (map part_draft c.args.parts.items)))
    (λ x. draw (places_of x c.args.file.now) k n d (part_draft c.in-Some.part))
    (λ x e. draw_all (places_of x c.args.file.now) k n e (forest_of (map part_draft left)))
    c.in_err-draw_part.field-0.0 c.from_residual.result (search rules) c.parts.invariant.way
    c.in_err-draw_part.ensures.draws
    (λ x. one_above (places_of x c.args.file.now) k n d part_draft c.in-Some.part (into_iter_items c.next.new.self) left
    items)
