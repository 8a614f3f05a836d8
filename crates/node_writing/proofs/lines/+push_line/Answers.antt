use Rattle.std.proofs.Common.{rules, ◌+◌, arith}
use Rattle.node_writing.proofs.Appending.{child_smaller, lines_written, room_below, room_of, then_children, then_line}
use Rattle.node_writing.proofs.lines.+push_line.Goals as goal

pub children-init : goal.children-init
children-init g t c = record {
  written = then_children (g.N.Named.names c.args.index.now) c.args.level _ _ _ _ _ _ _ _ c.line.view_is
      c.deref-child-items.ensures.value c.as_str.ensures.same c.in_ok-push_value.ensures;
  room = room_below _ _ _ _ _ c.line.view_is c.deref-child-items.ensures.value c.requires;
}

pub push_line-requires : goal.push_line-requires
push_line-requires g t c κs within = (
  omega (
    arith,
    child_smaller c.args.line.now _ _ c.deref-child-items.result.now c.children.child-index c.child-item.result
        c.line.view_is c.deref-child-items.ensures.value c.children-test.true c.child-item.is,
    c.decreases,
  ),
  (
    search rules,
    room_of c.deref-child-items.result.now c.children.child-index c.child-item.result c.args.level c.children-test.true
        c.child-item.is c.children.invariant.room,
  ),
)

pub children-preserved : goal.children-preserved
children-preserved g t c = record {
  written = then_line (g.N.Named.names c.args.index.now) (c.args.level + 1) c.deref-child-items.result.now
      c.children.child-index c.child-item.result _ _ _ c.children-test.true c.child-item.is c.in_ok-push_line.ensures
      c.children.invariant.written;
  room = c.children.invariant.room;
}

pub returns : goal.returns
returns g t c = lines_written (g.N.Named.names c.args.index.now) (c.args.level + 1) c.deref-child-items.result.now
    c.children.child-index _ _ c.children-test.false c.children.invariant.written
