use Rattle.std.proofs.Common.{◌≡◌, ◌∙◌, ◌<◌, [], map, ap, sym, arith}
use Rattle.std.proofs.lemmas.Grind.{common_steps}
use Rattle.std.specs.Vec.Iter.{into_iter_items}
use Rattle.stored_lines.specs.Tree.{Tree, label, relabel, forest_of}
use Rattle.stored_lines.specs.Levels.{forest_levels}
use Rattle.stored_lines.specs.Line.{Line}
use Rattle.stored_lines.proofs.Relabel.{relabelled}
use Rattle.stored_lines.proofs.Levels.{levels-map}
use Rattle.archive_state.specs.Merging as merging
use Rattle.import_definitions.specs.Numbers.{number_at}
use Rattle.import_numbers.proofs.Below.{begun, ended}
use Rattle.import_numbers.proofs.lines.+line_with.Goals as goal

pub children-init : goal.children-init
children-init t c = record {
  value = ap (λ (u : Tree Line). (label u).value) c.line.view_is;
  made = begun (merging.line_with (number_at c.args.numbers.now)) c.args.line
      (record { tag = c.line.inside.tag; value = c.line.inside.value }) c.line.inside.children.items
      c.in_ok-made.made.items (into_iter_items c.into_iter-child-iterator.result) (sym c.line.view_is)
      c.in_ok-made.ensures.items c.into_iter-child-iterator.ensures.into_iter_gives.0;
}

pub invariant_of-result : goal.invariant_of-result
invariant_of-result t c =
    let f : Line → Line = merging.line_with (number_at c.args.numbers.now) in
    let none : into_iter_items c.children.child-iterator ≡ [] = grind (arith, common_steps) in
    let below : c.children.made.items ≡ map (relabel f) c.line.inside.children.items = ended f c.args.line
    (record { tag = c.line.inside.tag; value = c.line.inside.value }) c.line.inside.children.items
    c.children.made.items (into_iter_items c.children.child-iterator) (sym c.line.view_is) none
    c.children.invariant.made in
    let few : forest_levels (forest_of c.line.inside.children.items) < 99 = c.line.invariant in
    omega (arith, few, levels-map f c.line.inside.children.items, ap (λ vs. forest_levels (forest_of vs)) below)

pub returns : goal.returns
returns t c =
    let f : Line → Line = merging.line_with (number_at c.args.numbers.now) in
    let line : Line = record { tag = c.line.inside.tag; value = c.line.inside.value } in
    let made : Line = record { tag = c.line.inside.tag; value = c.value_with.result } in
    let none : into_iter_items c.children.child-iterator ≡ [] = grind (arith, common_steps) in
    let below : c.children.made.items ≡ map (relabel f) c.line.inside.children.items = ended f c.args.line line
    c.line.inside.children.items c.children.made.items (into_iter_items c.children.child-iterator) (sym c.line.view_is)
    none c.children.invariant.made in
    let same : _ ≡ c.line.inside.value = c.children.invariant.value
    ∙ ap (λ (u : Tree Line). (label u).value) (sym c.line.view_is) in
    let top : made ≡ f line = ap (λ v. (record { tag = c.line.inside.tag; value = v })) (c.value_with.ensures
    ∙ ap (merging.value_with (number_at c.args.numbers.now)) same) in
    relabelled f c.args.line line c.line.inside.children.items made c.children.made.items (sym c.line.view_is) top below
