use Rattle.std.proofs.Common.{◌≡◌, ◌∷◌, ◌++◌, [], ap, map, reverse, rules, ◌∙◌}
use Rattle.std.proofs.lemmas.List.{reverse-append}
use Rattle.import_definitions.specs.Numbers.{finished}
use Rattle.import_numbers.specs.Views.{drawing_said, drawn_said, places_of}
use Rattle.imports.proofs.DrawnBatches.{records_on}
use Rattle.imports.proofs.drawn_batch.finished_records.Goals as goal

pub left-preserved : goal.left-preserved
left-preserved g c =
    let behind = c.take_last.new.items.items in
    let taken : c.left.left.items ≡ behind ++ c.in-Some.one ∷ [] = search rules in
    let items : reverse c.left.left.items ≡ c.in-Some.one ∷ reverse behind =
    ap reverse taken ∙ reverse-append behind (c.in-Some.one ∷ []) in
    record {
      way = records_on g.V.View.is_honest g.V.View.shows g.V.View.content (λ x. places_of x c.args.file.now)
          (λ x. finished (places_of x c.args.file.now) (drawing_said c.args.drawing.now)) c.args.view.now c.left.view
          c.add_finished.new.view c.args.looks.now.found c.left.looks.found c.add_finished.new.looks.found
          c.left.records.items c.add_finished.new.records.items c.in-Some.one (reverse behind)
          (reverse c.left.left.items) (λ x. map (finished (places_of x c.args.file.now)
          (drawing_said c.args.drawing.now)) (map drawn_said c.args.drawn.items)) items c.left.invariant.way
          c.in_ok-add_finished.ensures.adds;
      counts = search rules;
    }
