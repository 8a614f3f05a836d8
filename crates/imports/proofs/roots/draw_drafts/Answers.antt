use Rattle.std.proofs.Common.{
  ◌≡◌,
  ◌+◌,
  ◌∷◌,
  ◌++◌,
  [],
  ap,
  arith,
  length,
  map,
  reverse,
  rules,
  subst,
  sym,
  ◌∙◌,
}
use Rattle.std.proofs.lemmas.List.{length-append, reverse-append}
use Rattle.record_shapes.specs.Lists.{EachOf}
use Rattle.import_definitions.specs.Numbers.{draw, root_drawn}
use Rattle.import_numbers.specs.Views.{drawing_said, places_of}
use Rattle.node_reading.specs.Trees.{draft_tree}
use Rattle.imports.specs.Drafts.{SeeksByPaths, draw_each}
use Rattle.imports.proofs.Least.{root_above}
use Rattle.imports.proofs.Ways.{way_on, way_stopped}
use Rattle.imports.proofs.roots.draw_drafts.Goals as goal

pub returns-in_err-draw_root-clause-draws : goal.returns-in_err-draw_root-clause-draws
returns-in_err-draw_root-clause-draws g c =
    let k = c.left.position in
    let d = drawing_said c.left.drawing in
    let behind = c.take_last.new.items.items in
    let left = reverse c.left.left.items in
    let taken : c.left.left.items ≡ behind ++ c.in-Some.draft ∷ [] = search rules in
    let items : left ≡ c.in-Some.draft ∷ reverse behind =
    ap reverse taken ∙ reverse-append behind (c.in-Some.draft ∷ []) in
    way_stopped g.V.View.is_honest g.V.View.shows g.V.View.content c.args.view.now c.left.view c.draw_root.new.view
    c.args.looks.now.found c.left.looks.found c.draw_root.new.looks.found c.left.drawing c.draw_root.new.drawing
    (λ x. draw_each (places_of x c.args.file.now) 0 (drawing_said c.args.drawing.now)
    (map draft_tree c.args.drafts.items))
    (λ x. draw (places_of x c.args.file.now) k 0 (root_drawn d) (draft_tree c.in-Some.draft))
    (λ x e. draw_each (places_of x c.args.file.now) k e (map draft_tree left))
    c.in_err-draw_root.field-0.0 c.from_residual.result (search rules) c.left.invariant.way
    c.in_err-draw_root.ensures.draws
    (λ x. root_above (places_of x c.args.file.now) k d draft_tree c.in-Some.draft (reverse behind) left items)

pub left-preserved : goal.left-preserved
left-preserved g c =
    let k = c.left.position in
    let d = drawing_said c.left.drawing in
    let behind = c.take_last.new.items.items in
    let left = reverse c.left.left.items in
    let taken : c.left.left.items ≡ behind ++ c.in-Some.draft ∷ [] = search rules in
    let items : left ≡ c.in-Some.draft ∷ reverse behind =
    ap reverse taken ∙ reverse-append behind (c.in-Some.draft ∷ []) in
    record {
      seeks = (subst (λ xs. EachOf SeeksByPaths (map draft_tree xs)) items c.left.invariant.seeks).1;
      count = omega (arith, ap length taken, length-append behind (c.in-Some.draft ∷ []), c.left.invariant.count);
      way = way_on g.V.View.is_honest g.V.View.shows g.V.View.content c.args.view.now c.left.view c.draw_root.new.view
          c.args.looks.now.found c.left.looks.found c.draw_root.new.looks.found c.left.drawing c.draw_root.new.drawing
          (λ x. draw_each (places_of x c.args.file.now) 0 (drawing_said c.args.drawing.now)
          (map draft_tree c.args.drafts.items))
          (λ x. draw (places_of x c.args.file.now) k 0 (root_drawn d) (draft_tree c.in-Some.draft))
          (λ x e. draw_each (places_of x c.args.file.now) k e (map draft_tree left))
          (λ x e. draw_each (places_of x c.args.file.now) (k + 1) e (map draft_tree (reverse behind)))
          c.left.invariant.way c.in_ok-draw_root.ensures.draws
          (λ x. sym (ap (λ xs. draw_each (places_of x c.args.file.now) k d (map draft_tree xs)) items));
      counts = search rules;
    }
