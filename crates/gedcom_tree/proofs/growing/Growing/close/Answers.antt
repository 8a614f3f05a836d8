use Rattle.std.proofs.Common.{◌++◌, ◌∷◌, [], ◌∙◌, sym, ap, arith, refl}
use Rattle.gedcom_tree.specs.Flat.{built}
use Rattle.gedcom_tree.specs.declared.node.Node.TheViews.{out-Node}
use Rattle.gedcom_tree.proofs.Grown.{closed_rolled, closed_at_zero, same_last}
use Rattle.gedcom_tree.proofs.growing.Growing.close.Goals as goal

pub returns-in_ok-push-in-Some-last_mut-clause-same : goal.returns-in_ok-push-in-Some-last_mut-clause-same
returns-in_ok-push-in-Some-last_mut-clause-same c =
    let p = c.in-Some-last_mut.parent.now in
    let roots = c.args.self.now.roots.items in
    let popped = c.pop.new.self.items in
    let child = c.fitted-child.result in
    closed_rolled roots popped (popped ++ child ∷ []) child p
    (record {
      line = (out-Node p).line;
      xref = (out-Node p).xref;
      tag = (out-Node p).tag;
      value = (out-Node p).value;
      children = c.push.new.self;
    }) _ refl (omega (arith, c.in-Some-last_mut.ensures.item.3.0, c.pop.new.self.ok.0))
    c.in-Some-last_mut.ensures.value refl refl refl refl c.in_ok-push-in-Some-last_mut.ensures.items
    ∙ same_last roots popped child c.in-Some.last c.fitted-child.ensures
    ∙ ap (built roots) (sym c.in-Some.ensures.items)

pub returns-in_ok-push-in-None-clause-same : goal.returns-in_ok-push-in-None-clause-same
returns-in_ok-push-in-None-clause-same c =
    let roots = c.args.self.now.roots.items in
    let popped = c.pop.new.self.items in
    let child = c.fitted-child.result in
    closed_at_zero roots c.push-in-None.new.self.items popped (popped ++ child ∷ []) child refl
    (omega (arith, c.in-None.ensures.item)) c.in_ok-push-in-None.ensures.items
    ∙ same_last roots popped child c.in-Some.last c.fitted-child.ensures
    ∙ ap (built roots) (sym c.in-Some.ensures.items)
