use Rattle.std.proofs.Common.{sym, ◌∙◌}
use Rattle.gedcom_tree.specs.Flat.{flat}
use Rattle.gedcom_tree.proofs.Alike.{told_by}
use Rattle.gedcom_tree.proofs.Matched.{one_matched, matched_one, same_lists}
use Rattle.gedcom_tree.proofs.comparing.NodePartialEq.eq.Goals as goal

pub returns-then-is_same_line-clause-same : goal.returns-then-is_same_line-clause-same
returns-then-is_same_line-clause-same c = (
  (λ e. matched_one 0 c.args.self.now c.args.other.now ((c.is_same_line.ensures 0).0 c.if-is_same_line.true)
      (same_lists 1 _ _ _ _ (sym c.deref.ensures.value) (sym c.deref-then-is_same_line.ensures.value)
      ((c.are_same.ensures 1).0 e))),
  (λ h. (c.are_same.ensures 1).1 (same_lists 1 _ _ _ _ c.deref.ensures.value c.deref-then-is_same_line.ensures.value
      (one_matched 0 c.args.self.now c.args.other.now h).below)),
)

pub returns-then-is_same_line-clause-told : goal.returns-then-is_same_line-clause-told
returns-then-is_same_line-clause-told c = told_by (flat c.args.self.now 0) (flat c.args.other.now 0) c.are_same.result
    (returns-then-is_same_line-clause-same c)

pub returns-else-is_same_line-clause-same : goal.returns-else-is_same_line-clause-same
returns-else-is_same_line-clause-same c = (
  (λ e. absurd (let bad = sym c.if-is_same_line.false ∙ e in cc)),
  (λ h. (c.is_same_line.ensures 0).1 (one_matched 0 c.args.self.now c.args.other.now h).line),
)

pub returns-else-is_same_line-clause-told : goal.returns-else-is_same_line-clause-told
returns-else-is_same_line-clause-told c = told_by (flat c.args.self.now 0) (flat c.args.other.now 0)
    c.is_same_line.result (returns-else-is_same_line-clause-same c)
