use Rattle.std.proofs.Common.{◌≡◌, ◌∷◌, rules, map}
use Rattle.std.specs.Vec.Iter.{into_iter_items}
use Rattle.stored_lines.specs.Tree.{forest_of}
use Rattle.import_definitions.specs.Numbers.{draw, draw_all}
use Rattle.import_numbers.specs.Views.{drawing_said, places_of}
use Rattle.node_reading.specs.Owners.{owned_tree}
use Rattle.imports.proofs.Least.{one_above}
use Rattle.imports.proofs.Ways.{way_stopped}
use Rattle.imports.proofs.below.draw_all_owned.Goals as goal

pub returns-in_err-draw_owned-clause-draws : goal.returns-in_err-draw_owned-clause-draws
returns-in_err-draw_owned-clause-draws g c =
    let k = c.args.below.position in
    let n = c.args.below.owner in
    let d = drawing_said c.owned.drawing in
    let left = into_iter_items c.owned.one-iterator in
    let items : left ≡ c.in-Some.one ∷ into_iter_items c.next.new.self = search rules in
    way_stopped g.V.View.is_honest g.V.View.shows g.V.View.content c.args.view.now c.owned.view c.draw_owned.new.view
    c.args.looks.now.found c.owned.looks.found c.draw_owned.new.looks.found c.owned.drawing c.draw_owned.new.drawing
    (λ x. draw_all (places_of x c.args.file.now) k n (drawing_said c.args.drawing.now)
    (forest_of (map owned_tree c.args.owned.items)))
    (λ x. draw (places_of x c.args.file.now) k n d (owned_tree c.in-Some.one))
    (λ x e. draw_all (places_of x c.args.file.now) k n e (forest_of (map owned_tree left)))
    c.in_err-draw_owned.field-0.0 c.from_residual.result (search rules) c.owned.invariant.way
    c.in_err-draw_owned.ensures.draws
    (λ x. one_above (places_of x c.args.file.now) k n d owned_tree c.in-Some.one (into_iter_items c.next.new.self) left
    items)
