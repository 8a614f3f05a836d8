use Rattle.std.proofs.Common.{◌+◌, sym, ◌∙◌}
use Rattle.gedcom_tree.proofs.Matched.{left_matched, left_next, left_ends, both_ways, same_lists}
use Rattle.gedcom_tree.proofs.comparing.+are_same.Goals as goal
use Rattle.gedcom_tree.proofs.comparing.+are_same.Goals.{
  then-not-is_same_line-via-then-not-is_same_line,
  then-not-is_same_line-via-else-not-is_same_line+then-not-are_same,
}

pub returns-then-not-is_same_line : goal.returns-then-not-is_same_line
returns-then-not-is_same_line t c level = (
  (λ bad. absurd cc),
  (λ h.
      let m = left_matched c.loop-node.node-index c.args.a.now c.loop-node.rest.now c.in-Some.more.now
      c.node-item.result c.in-Some.other.now c.loop-node-test.true c.node-item.is c.in-Some.ensures.cases.0 level
      ((c.loop-node.invariant level).0 h) in
      elim c.then-not-is_same_line.branch [
        | then-not-is_same_line-via-then-not-is_same_line w ↦ sym w.if-not-is_same_line.true
            ∙ (c.is_same_line.ensures level).1 m.line
        | then-not-is_same_line-via-else-not-is_same_line+then-not-are_same w ↦
            sym w.if-not-are_same.true ∙ (w.are_same.ensures (level + 1)).1
            (same_lists (level + 1) _ _ _ _ w.deref.ensures.value w.deref-else-not-is_same_line.ensures.value m.below)
      ]),
)

pub loop-node-preserved : goal.loop-node-preserved
loop-node-preserved t c level = both_ways (c.loop-node.invariant level)
    (left_next c.loop-node.node-index c.args.a.now c.loop-node.rest.now c.in-Some.more.now c.node-item.result
    c.in-Some.other.now c.loop-node-test.true c.node-item.is c.in-Some.ensures.cases.0 level
    ((c.is_same_line.ensures level).0 c.if-not-is_same_line.false)
    (same_lists (level + 1) _ _ _ _ (sym c.deref.ensures.value) (sym c.deref-else-not-is_same_line.ensures.value)
    ((c.are_same.ensures (level + 1)).0 c.if-not-are_same.false)))

pub returns : goal.returns
returns t c level = let r = left_ends c.loop-node.node-index c.args.a.now c.loop-node.rest.now level c.is_empty.result
    c.loop-node-test.false c.is_empty.ensures in
    ((λ h. (c.loop-node.invariant level).1 (r.0 h)), (λ h. r.1 ((c.loop-node.invariant level).0 h)))
