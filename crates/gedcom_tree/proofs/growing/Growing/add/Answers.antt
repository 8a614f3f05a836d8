use Rattle.std.proofs.Common.{◌++◌, ◌∷◌, [], List, ap, ◌∙◌}
use Rattle.gedcom_tree.specs.Forest.{Item}
use Rattle.gedcom_tree.specs.Flat.{said}
use Rattle.gedcom_tree.proofs.Grown.{opened}
use Rattle.gedcom_tree.proofs.growing.Growing.add.Goals as goal

pub returns-clause-added : goal.returns-clause-added
returns-clause-added c =
    opened c.close_to.new.self.roots.items c.close_to.new.self.path.items c.push.new.self.items c.args.node c.args.level
    c.in_ok-push.ensures.items c.in_ok-close_to.ensures.depth c.requires.leaf
    ∙ ap (λ (x : List Item). x ++ said c.args.level c.args.node ∷ []) c.in_ok-close_to.ensures.same
