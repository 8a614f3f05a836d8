use Rattle.std.proofs.Common.{◌-◌, List, ℕ, arith, ap, refl, ◌∙◌}
use Rattle.gedcom_line.specs.Reading.{parts}
use Rattle.gedcom_rules.specs.Continuing.{adds}
use Rattle.gedcom_tree.specs.Forest.{extended}
use Rattle.gedcom_tree.specs.Flat.{built}
use Rattle.gedcom_tree.specs.declared.node.Node.TheViews.{out-Node}
use Rattle.gedcom_tree.proofs.Grown.{joined_rolled}
use Rattle.gedcom_tree.proofs.growing.Growing.join.Goals as goal

pub returns-in_ok-join_value-clause-joined : goal.returns-in_ok-join_value-clause-joined
returns-in_ok-join_value-clause-joined c =
    let p = c.in-Some.above.now in
    let roots = c.close_to.new.self.roots.items in
    let path = c.close_to.new.self.path.items in
    let t : List ℕ = adds (parts c.args.line.now) in
    joined_rolled roots path p
    (record {
      line = (out-Node p).line;
      xref = (out-Node p).xref;
      tag = (out-Node p).tag;
      value = c.join_value.new.value;
      children = (out-Node p).children;
    }) _ t
    (omega (arith, c.in-Some.ensures.item.3.0, c.close_to.new.self.path.ok.0)) c.in-Some.ensures.value refl refl refl
    c.in_ok-join_value.ensures refl
    ∙ ap (λ (k : ℕ). extended k t (built roots path))
    (omega (arith, c.in_ok-close_to.ensures.depth, c.close_to.new.self.path.ok.0))
    ∙ ap (extended (c.args.level - 1) t) c.in_ok-close_to.ensures.same
