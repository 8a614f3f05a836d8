use Rattle.std.proofs.Common.{◌<◌, ◌≤◌, arith, length}
use Rattle.stored_lines.specs.Line.{Label}
use Rattle.stored_lines.proofs.Same.{more_same, other_child, other_len, same_trees}
use Rattle.stored_lines.proofs.comparing.+are_same_branches.Goals as goal

pub returns-then-len : goal.returns-then-len
returns-then-len t c =
    let one : Label = record { tag = c.a.inside.tag; text = c.a.inside.text; target = c.a.inside.target } in
    let other : Label = record { tag = c.b.inside.tag; text = c.b.inside.text; target = c.b.inside.target } in
    other_len c.args.a.now c.args.b.now one other c.a.inside.children.items c.b.inside.children.items c.a.view_is
    c.b.view_is
    (λ same. c.if-len.true (omega (
      arith,
      same,
      c.a.inside.children.ok.0,
      c.b.inside.children.ok.0,
      c.len.ensures,
      c.len-2.ensures,
    )))

pub returns-then-not-are_same_branches : goal.returns-then-not-are_same_branches
returns-then-not-are_same_branches t c =
    let one : Label = record { tag = c.a.inside.tag; text = c.a.inside.text; target = c.a.inside.target } in
    let other : Label = record { tag = c.b.inside.tag; text = c.b.inside.text; target = c.b.inside.target } in
    let less : c.children.i < length c.a.inside.children.items = omega (
      arith,
      c.children-test.true,
      c.len-i-end.ensures,
      c.a.inside.children.ok.0,
    ) in
    other_child c.args.a.now c.args.b.now one other c.a.inside.children.items c.b.inside.children.items c.a.view_is
    c.b.view_is c.children.i c.index.result.now c.index-in-children.result.now c.are_same_branches.result less
    c.index.ensures c.index-in-children.ensures c.if-not-are_same_branches.true c.are_same_branches.ensures.1

pub children-preserved : goal.children-preserved
children-preserved t c =
    let less : c.children.i < length c.a.inside.children.items = omega (
      arith,
      c.children-test.true,
      c.len-i-end.ensures,
      c.a.inside.children.ok.0,
    ) in
    let few : c.children.i < length c.b.inside.children.items = omega (
      arith,
      less,
      c.if-len.false,
      c.len.ensures,
      c.len-2.ensures,
      c.a.inside.children.ok.0,
      c.b.inside.children.ok.0,
    ) in
    more_same c.a.inside.children.items c.b.inside.children.items c.children.i c.index.result.now
    c.index-in-children.result.now less few c.index.ensures c.index-in-children.ensures
    (c.are_same_branches.ensures.0 c.if-not-are_same_branches.false) c.children.invariant

pub returns : goal.returns
returns t c =
    let one : Label = record { tag = c.a.inside.tag; text = c.a.inside.text; target = c.a.inside.target } in
    let other : Label = record { tag = c.b.inside.tag; text = c.b.inside.text; target = c.b.inside.target } in
    let less : length c.a.inside.children.items ≤ c.children.i = omega (
      arith,
      c.children-test.false,
      c.len-i-end.ensures,
      c.a.inside.children.ok.0,
    ) in
    let few : length c.b.inside.children.items ≤ c.children.i = omega (
      arith,
      less,
      c.if-len.false,
      c.len.ensures,
      c.len-2.ensures,
      c.a.inside.children.ok.0,
      c.b.inside.children.ok.0,
    ) in
    same_trees c.args.a.now c.args.b.now one other c.a.inside.children.items c.b.inside.children.items c.a.view_is
    c.b.view_is c.children.i less few (c.is_same_line.ensures.0 c.if-not-is_same_line.false) c.children.invariant
