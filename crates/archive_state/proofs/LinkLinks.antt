-- Whether a number stands among links.
use Rattle.std.proofs.Common.{◌≡◌, ℕ, List, [], ◌∷◌, ◌++◌, refl, ap, ◌∙◌}
use Rattle.std.specs.Prelude.{◌||◌, ◌==◌}
use Rattle.std.specs.List.{flat_map}
use Rattle.stored_lines.specs.Tree.{Tree, forest_of}
use Rattle.stored_lines.specs.Line.{Line}
use Rattle.archive_state.specs.Links.{Link, is_among, line_links, forest_links}
use Rattle.list_laws.proofs.Booleans.{or_assoc}

pub among_both : (n : ℕ) (ls ms : List Link) → is_among n (ls ++ ms) ≡ (is_among n ls || is_among n ms)
among_both n [] ms = refl
among_both n (l ∷ ls) ms = ap (λ b. (l.0 == n) || b) (among_both n ls ms) ∙ or_assoc (l.0 == n)
    (is_among n ls) (is_among n ms)

-- the links of trees side by side
pub forest_flat : (ts : List (Tree Line)) → forest_links (forest_of ts) ≡ flat_map line_links ts
forest_flat [] = refl
forest_flat (t ∷ ts) = ap (λ ls. line_links t ++ ls) (forest_flat ts)
