use Rattle.std.proofs.Common.{◌∙◌, ◌++◌, ◌∷◌, List, ℕ, [], ap, codes}
use Rattle.sha2.specs.Sha256.{sha256}
use Rattle.gedcom_tree.specs.Flat.{flats}
use Rattle.gedcom_tree.proofs.Streamed.{forest_low, text_is}
use Rattle.commands.proofs.forest_bytes.forest_digest.Goals as goal

pub feed_nodes-requires : goal.feed_nodes-requires
feed_nodes-requires c = forest_low c.args.forest.now (flats 0 c.nodes.result.now) c.nodes.ensures.nodes
    c.nodes.ensures.forest

pub returns : goal.returns
returns c = c.finalize.ensures _ (c.in_ok-feed_nodes.ensures _ (c.update.ensures [] c.new-hasher.ensures))
    ∙ ap (λ (x : List ℕ). sha256 (codes "import" ++ 10 ∷ x))
    (text_is c.args.forest.now (flats 0 c.nodes.result.now) c.nodes.ensures.nodes)
