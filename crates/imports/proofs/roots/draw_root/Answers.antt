use Rattle.std.proofs.Common.{◌+◌, ◌≤◌, rules, sym, subst, ap, ◌∙◌, map}
use Rattle.stored_lines.specs.Tree.{forest_of}
use Rattle.std.specs.Prelude.{None}
use Rattle.import_definitions.specs.Numbers.{draw, draw_all, root_drawn}
use Rattle.import_numbers.specs.Views.{drawing_said, places_of}
use Rattle.node_reading.specs.Owners.{owned_tree}
use Rattle.node_reading.specs.Trees.{draft_tree}
use Rattle.imports.proofs.Least.{read_above}
use Rattle.imports.proofs.Ways.{full_is, owes_same, owes_still}
use Rattle.imports.proofs.roots.draw_root.Goals as goal

pub returns-in_err-number-clause-draws : goal.returns-in_err-number-clause-draws
returns-in_err-number-clause-draws g c =
    let d = drawing_said c.args.drawing.now in
    let found = c.taken_apart-found.result.0 in
    let f = forest_of (map owned_tree c.taken_apart-found.result.1.items) in
    owes_still g.V.View.is_honest g.V.View.shows g.V.View.content c.args.view.now c.args.looks.now.found
    (λ x. draw (places_of x c.args.file.now) c.args.position 0 (root_drawn d) (draft_tree c.args.draft))
    c.draw_record.new.drawing c.from_residual.result
    (λ x. full_is d.next c.draw_record.new.drawing
    (draw (places_of x c.args.file.now) c.args.position 0 (root_drawn d) (draft_tree c.args.draft))
    c.in_err-number.field-0.0 c.from_residual.result (search rules)
    (subst (λ t. d.next + 1 ≤ (draw (places_of x c.args.file.now) c.args.position 0 (root_drawn d) t).next)
    (sym c.taken_apart-found.ensures)
    (read_above (places_of x c.args.file.now) c.args.position 0 (root_drawn d) found None f))
    c.in_err-number.ensures.number)

pub returns-clause-draws : goal.returns-clause-draws
returns-clause-draws g c =
    let d = drawing_said c.args.drawing.now in
    let found = c.taken_apart-found.result.0 in
    let f = forest_of (map owned_tree c.taken_apart-found.result.1.items) in
    owes_same g.V.View.is_honest g.V.View.shows g.V.View.content c.args.view.now c.draw_all_owned.new.view
    c.args.looks.now.found c.draw_all_owned.new.looks.found
    (λ x. draw_all (places_of x c.args.file.now) c.args.position c.in_ok-number.number
    (drawing_said c.draw_record.new.drawing) f)
    (λ x. draw (places_of x c.args.file.now) c.args.position 0 (root_drawn d) (draft_tree c.args.draft))
    c.draw_all_owned.new.drawing c.draw_all_owned.result
    (λ x. (λ i. draw_all (places_of x c.args.file.now) c.args.position (c.in_ok-number.ensures.number i)
    (c.in_ok-number.ensures.drawn i) f)
    ∙ ap (draw (places_of x c.args.file.now) c.args.position 0 (root_drawn d)) (sym c.taken_apart-found.ensures))
    c.draw_all_owned.ensures.draws
