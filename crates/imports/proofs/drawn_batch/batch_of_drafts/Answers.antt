use Rattle.std.proofs.Common.{rules, ap, map, arith}
use Rattle.import_definitions.specs.Numbers.{begun}
use Rattle.import_numbers.specs.Views.{drawing_said, places_of}
use Rattle.node_reading.specs.Trees.{draft_tree}
use Rattle.imports.specs.Drafts.{draw_each}
use Rattle.imports.proofs.DrawnBatches.{drawing_over, drawing_refused}
use Rattle.imports.proofs.drawn_batch.batch_of_drafts.Goals as goal

pub returns-in_err-draw_drafts-clause-makes : goal.returns-in_err-draw_drafts-clause-makes
returns-in_err-draw_drafts-clause-makes g c =
    let ts = map draft_tree c.args.drafts.items in
    drawing_refused g.V.View.is_honest g.V.View.shows g.V.View.content (λ x. places_of x c.args.file.now)
    c.args.view.now c.draw_drafts.new.view c.new-looks.result.found
    (λ x. draw_each (places_of x c.args.file.now) 0 (drawing_said c.new-drawing.result) ts)
    (λ x. draw_each (places_of x c.args.file.now) 0 (begun c.args.next) ts) c.in_err-draw_drafts.field-0.0
    c.from_residual.result (search rules) c.new-looks.ensures
    (λ x. ap (λ d. draw_each (places_of x c.args.file.now) 0 d ts) c.new-drawing.ensures)
    c.in_err-draw_drafts.ensures.draws

pub returns-clause-makes : goal.returns-clause-makes
returns-clause-makes g c =
    let ts = map draft_tree c.args.drafts.items in
    drawing_over g.V.View.is_honest g.V.View.shows g.V.View.content (λ x. places_of x c.args.file.now)
    c.args.view.now c.draw_drafts.new.view c.finished_batch.new.view c.new-looks.result.found
    c.draw_drafts.new.looks.found
    (λ x. draw_each (places_of x c.args.file.now) 0 (drawing_said c.new-drawing.result) ts)
    (λ x. draw_each (places_of x c.args.file.now) 0 (begun c.args.next) ts) c.draw_drafts.new.drawing
    c.finished_batch.result c.new-looks.ensures
    (λ x. ap (λ d. draw_each (places_of x c.args.file.now) 0 d ts) c.new-drawing.ensures)
    (omega (arith, c.if-drawing-gt-NUMBERS.false)) c.in_ok-draw_drafts.ensures.draws c.finished_batch.ensures.makes
