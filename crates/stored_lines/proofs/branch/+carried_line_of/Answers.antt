use Rattle.std.proofs.Common.{◌≡◌, ◌<◌, map, rules, sym, arith}
use Rattle.stored_lines.specs.Tree.{relabel}
use Rattle.stored_lines.specs.Levels.{levels}
use Rattle.stored_lines.specs.Line.{Line, Label}
use Rattle.stored_lines.specs.Line.{line_of}
use Rattle.std.proofs.lemmas.Grind.{common_steps}
use Rattle.stored_lines.proofs.Relabel.{relabelled}
use Rattle.stored_lines.proofs.Levels.{levels-below, levels-kept}
use Rattle.stored_lines.proofs.branch.+carried_line_of.Goals as goal

pub returns : goal.returns
returns t c =
    let label : Label = record {
      tag = c.branch.inside.tag;
      text = c.branch.inside.text;
      target = c.branch.inside.target;
    } in
    let line : Line = record { tag = c.in_ok-copy.field-0; value = c.in_ok-value_of.field-0 } in
    let top : line ≡ line_of label = search rules in
    let below : c.children.children.items ≡ map (relabel line_of) c.branch.inside.children.items = grind
    (arith, common_steps) in
    relabelled line_of c.args.branch.now label c.branch.inside.children.items line c.children.children.items
    (sym c.branch.view_is) top below

pub carried_line_of-requires : goal.carried_line_of-requires
carried_line_of-requires t c =
    let label : Label = record {
      tag = c.branch.inside.tag;
      text = c.branch.inside.text;
      target = c.branch.inside.target;
    } in
    let both = levels-below c.args.branch.now label c.branch.inside.children.items c.deref-child-items.result.now
    c.children.child-index c.child-item.result 99 c.branch.view_is c.deref-child-items.ensures.value
    c.children-test.true c.child-item.is c.requires in
    let less : levels c.child-item.result < t = rw (← c.decreases) both.0 in
    (less, both.1)

pub invariant_of-result : goal.invariant_of-result
invariant_of-result t c =
    let label : Label = record {
      tag = c.branch.inside.tag;
      text = c.branch.inside.text;
      target = c.branch.inside.target;
    } in
    let below : c.children.children.items ≡ map (relabel line_of) c.branch.inside.children.items = grind
    (arith, common_steps) in
    levels-kept line_of c.args.branch.now label c.branch.inside.children.items c.children.children.items 99
    c.branch.view_is below c.requires
