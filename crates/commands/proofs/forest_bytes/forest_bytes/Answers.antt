use Rattle.std.proofs.Common.{◌∙◌, ◌++◌, ◌∷◌, List, ℕ, ap, codes}
use Rattle.std.specs.List.{flat_map}
use Rattle.gedcom_tree.specs.Flat.{flats}
use Rattle.gedcom_tree.specs.Text.{line_text, node_text, trailer}
use Rattle.gedcom_tree.proofs.Streamed.{forest_low, text_is}
use Rattle.commands.proofs.forest_bytes.forest_bytes.Goals as goal

pub push_nodes-requires : goal.push_nodes-requires
push_nodes-requires c = forest_low c.args.forest.now (flats 0 c.nodes.result.now) c.nodes.ensures.nodes
    c.nodes.ensures.forest

pub returns : goal.returns
returns c =
    let rest : List ℕ = flat_map node_text (flats 0 c.nodes.result.now) ++ line_text trailer in
    rw c.into_bytes.ensures.value (c.in_ok-push_nodes.ensures
    ∙ ap (λ (x : List ℕ). x ++ rest) c.in_ok-out.ensures.ok ∙ ap (λ (x : List ℕ). codes "import" ++ 10 ∷ x)
    (text_is c.args.forest.now (flats 0 c.nodes.result.now) c.nodes.ensures.nodes))
