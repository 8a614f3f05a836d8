use Rattle.std.proofs.Common.{◌≡◌, ◌∙◌, ◌++◌, ℕ, List, [], refl, sym, ap, subst, arith}
use Rattle.std.specs.List.{flat_map}
use Rattle.sha2.specs.Hashers.{Holds256}
use Rattle.gedcom_tree.specs.Flat.{flat}
use Rattle.gedcom_tree.specs.Text.{line_text, node_text, trailer}
use Rattle.gedcom_tree.proofs.Handing.{low_next, node_last, node_next}
use Rattle.commands.proofs.Feeding.{feeds_all, feeds_more, trailer_is}
use Rattle.commands.proofs.forest_bytes.feed_nodes.Goals as goal

pub loop-node-preserved : goal.loop-node-preserved
loop-node-preserved c =
    let more : List ℕ = flat_map node_text (flat c.node-item.result 0) in
    let same : c.as_bytes.result.now ≡ more = c.as_bytes.ensures.value ∙ c.in_ok-push_node.ensures
    ∙ ap (λ (x : List ℕ). x ++ more) c.clear.ensures.bytes in
    record {
      fed = feeds_more _ _ _ _ more _ _ c.loop-node.invariant.fed
          (node_next c.args.nodes.now c.loop-node.node-index c.node-item.result (line_text trailer)
          c.loop-node-test.true c.node-item.is)
          (λ m h. subst (λ (x : List ℕ). Holds256 c.update.new.self (m ++ x)) same (c.update.ensures m h));
      low = (low_next c.args.nodes.now c.loop-node.node-index c.node-item.result c.loop-node-test.true c.node-item.is
          c.loop-node.invariant.low).1;
    }

pub returns : goal.returns
returns c = feeds_all _ _ _ _
    (feeds_more _ _ _ _ (line_text trailer) [] _ c.loop-node.invariant.fed
    (node_last c.args.nodes.now c.loop-node.node-index (line_text trailer) (omega arith))
    (λ m h. subst (λ (x : List ℕ). Holds256 c.update-2.new.self (m ++ x)) (c.as_bytes-2.ensures.value ∙ sym trailer_is)
    (c.update-2.ensures m h))) refl
