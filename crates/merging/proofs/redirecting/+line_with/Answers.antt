use Rattle.std.proofs.Common.{◌≡◌, ◌<◌, map, rules, ap, sym, arith}
use Rattle.std.proofs.lemmas.Grind.{common_steps}
use Rattle.stored_lines.specs.Tree.{relabel, forest_of}
use Rattle.stored_lines.specs.Levels.{forest_levels}
use Rattle.stored_lines.specs.Line.{Line}
use Rattle.stored_lines.proofs.Relabel.{relabelled}
use Rattle.stored_lines.proofs.Levels.{levels-map}
use Rattle.archive_state.specs.Merging as merging
use Rattle.merging.proofs.Lists.{mapped_more}
use Rattle.merging.proofs.redirecting.+line_with.Goals as goal

pub returns : goal.returns
returns t c =
    let f : Line → Line = merging.line_with (merging.renamed c.args.keep c.args.gone) in
    let line : Line = record { tag = c.line.inside.tag; value = c.line.inside.value } in
    let made : Line = record { tag = c.in_ok-copy.field-0; value = c.in_ok-value_with.field-0 } in
    let top : made ≡ f line = search rules in
    let below : c.children.children.items ≡ map (relabel f) c.line.inside.children.items = grind
    (arith, common_steps) in
    relabelled f c.args.line.now line c.line.inside.children.items made c.children.children.items
    (sym c.line.view_is) top below

pub invariant_of-result : goal.invariant_of-result
invariant_of-result t c =
    let f : Line → Line = merging.line_with (merging.renamed c.args.keep c.args.gone) in
    let below : c.children.children.items ≡ map (relabel f) c.line.inside.children.items = grind
    (arith, common_steps) in
    let few : forest_levels (forest_of c.line.inside.children.items) < 99 = c.line.invariant in
    omega (arith, few, levels-map f c.line.inside.children.items, ap (λ vs. forest_levels (forest_of vs)) below)

pub children-preserved : goal.children-preserved
children-preserved t c = mapped_more (relabel (merging.line_with (merging.renamed c.args.keep c.args.gone)))
    c.deref-child-items.result.now c.children.child-index c.child-item.result
    c.children.children.items c.push.new.self.items c.in_ok-line_with.field-0 c.children-test.true c.child-item.is
    c.children.invariant c.in_ok-line_with.ensures c.in_ok-push.ensures.items
