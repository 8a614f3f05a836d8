use Rattle.std.proofs.Common.{◌↔◌, IsTrue, subst, List}
use Rattle.gedcom_tree.specs.Flat.{flats}
use Rattle.gedcom_tree.specs.Forest.{Item}
use Rattle.gedcom_tree.specs.Text.{IsSame}
use Rattle.gedcom_tree.proofs.Alike.{told_by}
use Rattle.gedcom_tree.proofs.comparing.ForestPartialEq.eq.Goals as goal

pub returns-clause-told : goal.returns-clause-told
returns-clause-told c =
    let h = subst (λ (f : List Item). IsTrue c.are_same.result ↔ IsSame f c.args.other.now) c.nodes.ensures.nodes
    (subst (λ (f : List Item). IsTrue c.are_same.result ↔ IsSame (flats 0 c.nodes.result.now) f)
    c.nodes-2.ensures.nodes (c.are_same.ensures 0)) in
    told_by c.args.self.now c.args.other.now c.are_same.result h
