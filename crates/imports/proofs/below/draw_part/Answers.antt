use Rattle.std.proofs.Common.{sym, subst}
use Rattle.import_definitions.specs.Numbers.{draw}
use Rattle.import_numbers.specs.Views.{drawing_said, places_of}
use Rattle.node_reading.specs.Drafts.{part_draft}
use Rattle.imports.specs.Drawing.{Draws}
use Rattle.imports.proofs.Ways.{owes_still}
use Rattle.imports.proofs.below.draw_part.Goals as goal

pub returns-in-Citation-clause-draws : goal.returns-in-Citation-clause-draws
returns-in-Citation-clause-draws g c = owes_still g.V.View.is_honest g.V.View.shows g.V.View.content c.args.view.now
    c.args.looks.now.found
    (λ x. draw (places_of x c.args.file.now) c.args.below.position c.args.below.owner
    (drawing_said c.args.drawing.now) (part_draft c.args.part))
    c.draw_citation.new.drawing c.draw_citation.result
    (λ x. subst (λ part. Draws (draw (places_of x c.args.file.now) c.args.below.position c.args.below.owner
    (drawing_said c.args.drawing.now) (part_draft part)) c.draw_citation.new.drawing c.draw_citation.result)
    (sym c.in-Citation.is) (c.draw_citation.ensures.draws (places_of x c.args.file.now) c.args.below.position))
