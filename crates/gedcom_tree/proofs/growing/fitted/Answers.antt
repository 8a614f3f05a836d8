use Rattle.std.proofs.Common.{refl}
use Rattle.gedcom_tree.specs.declared.node.Node.TheViews.{out-Node}
use Rattle.gedcom_tree.proofs.Grown.{same_flat}
use Rattle.gedcom_tree.proofs.growing.fitted.Goals as goal

pub returns : goal.returns
returns c = same_flat c.args.node
    (record {
      line = (out-Node c.args.node).line;
      xref = (out-Node c.args.node).xref;
      tag = (out-Node c.args.node).tag;
      value = (out-Node c.args.node).value;
      children = c.shrink_to_fit.new.self;
    }) refl refl refl refl
    c.shrink_to_fit.ensures.items
