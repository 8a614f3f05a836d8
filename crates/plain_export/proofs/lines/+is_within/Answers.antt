use Rattle.std.proofs.Common.{◌-◌, ◌<◌, ◌≤◌, take, arith}
use Rattle.stored_lines.specs.Line.{Line}
use Rattle.stored_lines.specs.Tree.{forest_of}
use Rattle.stored_lines.specs.Levels.{levels, forest_levels}
use Rattle.stored_lines.proofs.Levels.{none_within, child_over, levels-more}
use Rattle.plain_export.proofs.lines.+is_within.Goals as goal

pub returns-then-levels-eq0 : goal.returns-then-levels-eq0
returns-then-levels-eq0 t c = none_within c.args.line.now c.args.levels c.if-levels-eq0.true

pub returns-then-not-is_within : goal.returns-then-not-is_within
returns-then-not-is_within t c =
    let label : Line = record { tag = c.line.inside.tag; value = c.line.inside.value } in
    child_over c.args.line.now label c.line.inside.children.items c.deref-child-items.result.now
    c.children.child-index c.child-item.result c.args.levels c.is_within.result c.line.view_is
    c.deref-child-items.ensures.value c.children-test.true c.child-item.is c.if-not-is_within.true
    c.is_within.ensures.1

pub children-preserved : goal.children-preserved
children-preserved t c =
    let few : levels c.child-item.result ≤ c.args.levels - 1 = c.is_within.ensures.0 c.if-not-is_within.false in
    let before : forest_levels (forest_of (take c.children.child-index c.deref-child-items.result.now))
    < c.args.levels = c.children.invariant in
    let more = levels-more c.deref-child-items.result.now c.children.child-index c.child-item.result
    (c.args.levels - 1) c.children-test.true c.child-item.is (omega arith) few in
    omega arith
