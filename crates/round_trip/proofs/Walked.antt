-- The nodes of trees one after the other: their levels rise, and each is of a kind.
use Rattle.std.specs.Prelude.{
  ℕ,
  ◌≡◌,
  ◌+◌,
  ◌≤◌,
  ◌==◌,
  ◌&&◌,
  nat_le,
  Bool,
  true,
  false,
  cond,
  List,
  [],
  ◌∷◌,
  ◌++◌,
  map,
  codes,
  bytes_eq,
  refl,
}
use Rattle.std.proofs.Common.{ap, ◌∙◌, append_assoc, arith}
use Rattle.std.proofs.lemmas.Bool.Decides.{nat_tests}
use Rattle.std.proofs.lemmas.List.{map-append}
use Rattle.stored_lines.specs.Tree.{Forest, node, none, more, flat_all}
use Rattle.gedcom_tree.specs.Forest.{Item}
use Rattle.gedcom_tree.specs.Text.{keeps_header, rises}
use Rattle.node_writing.specs.Nodes.{Mark, item_at}

abbrev pub items : List (ℕ × Mark) → List Item
items xs = map item_at xs

pub items_append : (xs ys : List (ℕ × Mark)) → items (xs ++ ys) ≡ items xs ++ items ys
items_append xs ys = map-append item_at xs ys

-- ---- no level is more than one above that of the node before
stepped : (d lv : ℕ) (b : Bool) → d ≤ lv + 1 → b ≡ true → (nat_le d (lv + 1) && b) ≡ true
stepped d lv b h e = grind (arith, nat_tests)

pub forest_rises : (f : Forest Mark) (d lv : ℕ) (rest : List Item) → d ≤ lv + 1
    → ((n : ℕ) → d ≤ n + 1 → rises n rest ≡ true) → rises lv (items (flat_all d f) ++ rest) ≡ true
forest_rises none d lv rest h k = k lv h
forest_rises (more (node a g) ts) d lv rest h k =
    let inner = flat_all (d + 1) g in
    let behind = flat_all d ts in
    stepped d lv (rises d (items (inner ++ behind) ++ rest)) h
    (ap (λ us. rises d (us ++ rest)) (items_append inner behind)
    ∙ ap (rises d) (append_assoc (items inner) (items behind) rest)
    ∙ forest_rises g (d + 1) d (items behind ++ rest) (omega arith)
    (λ n low. let less : d ≤ n + 1 = (let l : d + 1 ≤ n + 1 = low in omega arith) in
    forest_rises ts d n rest less k))

-- ---- after the header no line is one of the header's
pub out_of_header : (under : Bool) (is : List Item) → keeps_header false under is ≡ true
out_of_header under [] = refl
out_of_header under (i ∷ is) = out_of_header (cond (i.level == 1) (bytes_eq i.tag (codes "GEDC")) under) is
