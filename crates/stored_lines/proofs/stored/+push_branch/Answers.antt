use Rattle.std.proofs.Common.{◌++◌, ◌∷◌, ◌∙◌, ap, sym, append_assoc, ℕ}
use Rattle.stored_lines.specs.Line.{Label}
use Rattle.stored_lines.specs.Tree.{flat, flat_all, forest_of, label}
use Rattle.stored_lines.proofs.Growing.{flat_all_push}
use Rattle.stored_lines.proofs.stored.+push_branch.Goals as goal

pub children-preserved : goal.children-preserved
children-preserved t c =
    let before = c.children.yielded in
    let child = c.in-Some-child.child in
    let first : ℕ × Label = (c.args.depth, label c.args.branch) in
    let below = c.in-Some.below in
    c.in_ok-push_branch.ensures
    ∙ ap (λ ls. ls ++ flat below child) c.children.invariant
    ∙ append_assoc c.args.out.now.items (first ∷ flat_all below (forest_of before)) (flat below child)
    ∙ ap (λ ls. c.args.out.now.items ++ (first ∷ ls)) (sym (flat_all_push below before child))
