-- The text of an export, record by record.
use Rattle.std.specs.Prelude.{ℕ, ◌≡◌, List, [], ◌∷◌, ◌++◌, map}
use Rattle.std.specs.List.{flat_map}
use Rattle.std.proofs.Common.{ap, ◌∙◌, append_assoc}
use Rattle.stored_lines.specs.Tree.{Tree}
use Rattle.archive_state.specs.Content.{Records}
use Rattle.gedcom_tree.specs.Text.{line_text, text, trailer}
use Rattle.node_writing.specs.Header.{header}
use Rattle.node_writing.specs.Pages.{nodes_text, record_page}
use Rattle.node_writing.proofs.Pages.{nodes-append, nodes-none}
use Rattle.gedcom_export.specs.Forest.{exported, node_of}
use Rattle.gedcom_export.specs.Order.{Numbered, households}
use Rattle.gedcom_export.specs.Pages.{household_page}

each_page : (m : Records) (ts : List (Tree Numbered)) → nodes_text 0 (map (node_of m) ts) ≡ flat_map
    (household_page m) ts
unfolding record_page
each_page m [] = nodes-none 0
each_page m (t ∷ ts) = nodes-append 0 (node_of m t ∷ []) (map (node_of m) ts)
    ∙ ap (λ (x : List ℕ). household_page m t ++ x) (each_page m ts)

pub text_of_exported : (m : Records) (society : List ℕ) → text (exported m society)
    ≡ nodes_text 0 (header society) ++ (flat_map (household_page m) (households m) ++ line_text trailer)
unfolding text exported nodes_text
text_of_exported m society =
    ap (λ (x : List ℕ). x ++ line_text trailer) (nodes-append 0 (header society) (map (node_of m) (households m)))
    ∙ append_assoc (nodes_text 0 (header society)) (nodes_text 0 (map (node_of m) (households m))) (line_text trailer)
    ∙ ap (λ (x : List ℕ). nodes_text 0 (header society) ++ (x ++ line_text trailer)) (each_page m (households m))
