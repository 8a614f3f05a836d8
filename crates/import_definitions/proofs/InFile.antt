-- What a forest's nodes have: tags, texts, levels, and names of their own.
use Rattle.std.proofs.Common.{
  ◌≡◌,
  ℕ,
  ◌+◌,
  ◌<◌,
  ◌≤◌,
  ◌^◌,
  Bool,
  true,
  false,
  not,
  ◌&&◌,
  ◌||◌,
  cond,
  List,
  [],
  ◌∷◌,
  ◌++◌,
  length,
  map,
  refl,
  sym,
  ap,
  ◌∙◌,
  subst,
  arith,
  length-append,
  Option,
  Some,
  None,
  bytes_eq,
  ltb,
  leb,
}
use Rattle.std.specs.Prelude.{◌==◌}
use Rattle.std.specs.Option.{option_map_or}
use Rattle.std.specs.Borrow.{Bor}
use Rattle.std.specs.List.{filter, list_any, list_all}
use Rattle.std.proofs.lemmas.List.{length-map}
use Rattle.std.proofs.lemmas.List.Folds.{list_any-append}
use Rattle.std.proofs.lemmas.Bool.{ltb-true, leb-true}
use Rattle.record_text.specs.Text.{IsTag}
use Rattle.stored_lines.specs.Tree.{node, forest_of}
use Rattle.stored_lines.specs.Levels.{levels, forest_levels}
use Rattle.gedcom_line.specs.Value.{Meaning, Text, Pointer}
use Rattle.gedcom_line.specs.Spelling.{is_textual}
use Rattle.gedcom_line.specs.Words.{is_word}
use Rattle.std.proofs.lemmas.Bool.{and_parts}
use Rattle.gedcom_tree.specs.Forest.{Item}
use Rattle.gedcom_tree.specs.Flat.{flats, said, value_said}
use Rattle.gedcom_tree.specs.Flat.{flat as items_of}
use Rattle.gedcom_tree.specs.Text.{IsForest, IsNodeOf, IsNodeValue, EachNode, are_distinct, is_tag}
use Rattle.gedcom_tree.specs.Text.{is_called as is_item_called}
use Rattle.gedcom_tree.proofs.Grown.{flat_out}
use Rattle.gedcom_tree.specs.declared.node.Node.{Node}
use Rattle.gedcom_tree.specs.declared.node.Node.TheOpen.{Node-F}
use Rattle.gedcom_tree.specs.declared.node.Node.TheViews.{out-Node, roll-Node, out-roll-Node}
use Rattle.gedcom_tree.specs.declared.node.Node.TheFolds.{ind-Node}
use Rattle.import_definitions.specs.Nodes.{
  FileNode,
  line_said,
  tree_of,
  trees_of,
  trees_at,
  nodes_of,
  IsSaid,
  IsLine,
  HasLines,
  HaveLines,
}
use Rattle.import_definitions.specs.Roots.{behind_first, candidates, is_called, is_society, is_kept, kept}
use Rattle.import_definitions.specs.Views.{AreInFile}
use Rattle.import_definitions.proofs.Trees.{tree_out, nodes_same}
use Rattle.list_laws.proofs.Booleans.{not_true, neither}
use Rattle.list_laws.proofs.Bytes.{bytes_same}

-- ---- a tag is a tag, and a text a text
tag_is : (tag : List ℕ) → is_tag tag ≡ true → IsTag tag
tag_is tag h =
    let a = and_parts (list_all is_word tag && ltb 0 (length tag)) (leb (length tag) 31) h in
    let b = and_parts (list_all is_word tag) (ltb 0 (length tag)) a.0 in
    record { some = ltb-true 0 (length tag) b.1; short = leb-true (length tag) 31 a.1; words = b.0 }

pub text_free : (t : List ℕ) → list_all is_textual t ≡ true → (list_any (λ b. b == 0) t ≡ false)
    × (list_any (λ b. b == 13) t ≡ false)
text_free [] h = (refl, refl)
text_free (b ∷ bs) h =
    let a = and_parts (is_textual b) (list_all is_textual bs) h in
    let r = text_free bs a.1 in
    free_step (b == 0) (b == 13) (list_any (λ c. c == 0) bs) (list_any (λ c. c == 13) bs) a.0 r.0 r.1
  where
    free_step : (x y p q : Bool) → (not x && not y) ≡ true → p ≡ false → q ≡ false
        → ((x || p) ≡ false) × ((y || q) ≡ false)
    free_step true y p q h e f = absurd cc
    free_step false true p q h e f = absurd cc
    free_step false false p q h e f = (e, f)

value_is : (m : Meaning) → IsNodeValue m → IsSaid m
value_is (Text t) h = let r = text_free t h.1.0 in record { no_nul = r.0; no_cr = r.1; short = h.1.1 }
value_is (Pointer p) h = tt

line_is : (d : ℕ) (n : Node) → IsNodeOf (said d n) → IsLine (line_said (out-Node n))
line_is d n h = record { tag = tag_is (out-Node n).tag h.tag; value = value_is (value_said (out-Node n).value) h.value }

each_parts : (a b : List Item) → EachNode (a ++ b) → EachNode a × EachNode b
each_parts [] b h = (tt, h)
each_parts (i ∷ is) b h = let r = each_parts is b h.1 in ((h.0, r.0), r.1)

abbrev Fit : Node → Type 0
Fit n = (d : ℕ) → EachNode (items_of n d) → HasLines (tree_of n) × (levels (tree_of n) + d ≤ 99)

children_fit : (es : List ((n : Node) × Fit n)) (d : ℕ) → d ≤ 99 → EachNode (flats d (map (λ e. e.0) es))
    → HaveLines (forest_of (trees_of (map (λ e. e.0) es)))
    × (forest_levels (forest_of (trees_of (map (λ e. e.0) es))) + d ≤ 99)
children_fit [] d low h = (tt, omega arith)
children_fit (e ∷ es) d low h =
    let p = each_parts (items_of e.0 d) (flats d (map (λ x. x.0) es)) h in
    let a = e.1 d p.0 in
    let b = children_fit es d low p.1 in
    ((a.0, b.0), omega (arith, a.1, b.1))

node_fit : (n : Node) → Fit n
node_fit = ind-Node Fit (λ x y is d h.
    let n : Node = roll-Node x in
    let o : out-Node n ≡ x = out-roll-Node x in
    let own : IsNodeOf (said d n) × EachNode (flats (d + 1) (out-Node n).children.items) = subst EachNode
    (flat_out n d) h in
    let low : d ≤ 98 = own.0.low in
    let below : EachNode (flats (d + 1) (out-Node n).children.items)
    → HaveLines (forest_of (trees_of (out-Node n).children.items))
    × (forest_levels (forest_of (trees_of (out-Node n).children.items)) + (d + 1) ≤ 99) =
    subst (λ (z : Node-F Node). EachNode (flats (d + 1) z.children.items)
    → HaveLines (forest_of (trees_of z.children.items))
    × (forest_levels (forest_of (trees_of z.children.items)) + (d + 1) ≤ 99)) (is ∙ sym o)
    (children_fit y.children.items (d + 1) (omega arith)) in
    let r = below own.1 in
    let deep : levels (node (line_said (out-Node n)) (forest_of (trees_of (out-Node n).children.items)))
    + d ≤ 99 = omega
    (arith, r.1) in
    subst (λ (t : FileNode). HasLines t × (levels t + d ≤ 99)) (sym (tree_out n)) ((line_is d n own.0, r.0), deep))

trees_fit : (ns : List Node) → EachNode (flats 0 ns) → AreInFile (trees_of ns)
trees_fit [] h = tt
trees_fit (n ∷ ns) h =
    let p = each_parts (items_of n 0) (flats 0 ns) h in
    let r = node_fit n 0 p.0 in
    (record { lines = r.0; low = omega (arith, r.1) }, trees_fit ns p.1)

-- ---- no name is that of two nodes
abbrev pub AreApart : List FileNode → Type 0
AreApart [] = Unit {0}
AreApart (t ∷ ts) = ((name : List ℕ) → is_called name t ≡ true → list_any (is_called name) ts ≡ false) × AreApart ts

distinct_behind : (a b : List Item) → are_distinct (a ++ b) ≡ true → are_distinct b ≡ true
distinct_behind [] b h = h
distinct_behind (i ∷ is) b h = distinct_behind is b
    (and_parts (not (option_map_or (λ x. list_any (is_item_called x) (is ++ b)) i.xref false))
    (are_distinct (is ++ b)) h).1

called_said : (name : List ℕ) (n : Node) → is_called name (tree_of n) ≡ is_item_called name (said 0 n)
called_said name n = ap (is_called name) (tree_out n)

none_called : (name : List ℕ) (ns : List Node) → list_any (is_item_called name) (flats 0 ns) ≡ false
    → list_any (is_called name) (trees_of ns) ≡ false
none_called name [] h = refl
none_called name (n ∷ ns) h =
    let first : list_any (is_item_called name) ((said 0 n ∷ flats 1 (out-Node n).children.items) ++ flats 0 ns)
    ≡ false =
    ap (λ (x : List Item). list_any (is_item_called name) (x ++ flats 0 ns)) (sym (flat_out n 0)) ∙ h in
    let a = neither (is_item_called name (said 0 n))
    (list_any (is_item_called name) (flats 1 (out-Node n).children.items ++ flats 0 ns)) first in
    let b = neither (list_any (is_item_called name) (flats 1 (out-Node n).children.items))
    (list_any (is_item_called name) (flats 0 ns))
    (sym (list_any-append (is_item_called name) (flats 1 (out-Node n).children.items) (flats 0 ns)) ∙ a.1) in
    (λ i. called_said name n i || none_called name ns b.1 i) ∙ ap (λ x. x || false) a.0

first_apart : (o : Option (List ℕ)) (is : List Item) (name : List ℕ)
    → not (option_map_or (λ x. list_any (is_item_called x) is) o false) ≡ true
    → option_map_or (bytes_eq name) o false ≡ true
    → list_any (is_item_called name) is ≡ false
first_apart None is name h e = absurd cc
first_apart (Some x) is name h e =
    ap (λ y. list_any (is_item_called y) is) (bytes_same name x e) ∙ not_true (list_any (is_item_called x) is) h

trees_apart : (ns : List Node) → are_distinct (flats 0 ns) ≡ true → AreApart (trees_of ns)
trees_apart [] h = tt
trees_apart (n ∷ ns) h =
    let below : List Item = flats 1 (out-Node n).children.items in
    let first : are_distinct ((said 0 n ∷ below) ++ flats 0 ns) ≡ true =
    ap (λ (x : List Item). are_distinct (x ++ flats 0 ns)) (sym (flat_out n 0)) ∙ h in
    let a = and_parts (not (option_map_or (λ x. list_any (is_item_called x) (below ++ flats 0 ns))
    (said 0 n).xref false))
    (are_distinct (below ++ flats 0 ns)) first in (
      λ name e. none_called name ns
          (neither (list_any (is_item_called name) below) (list_any (is_item_called name) (flats 0 ns))
          (sym (list_any-append (is_item_called name) below (flats 0 ns))
          ∙ first_apart (said 0 n).xref (below ++ flats 0 ns) name a.0 (sym (called_said name n) ∙ e))).1,
      trees_apart ns (distinct_behind below (flats 0 ns) a.1),
    )

-- ---- of some of them
filter_none : (f p : FileNode → Bool) (ts : List FileNode) → list_any f ts ≡ false → list_any f (filter p ts) ≡ false
filter_none f p [] h = refl
filter_none f p (t ∷ ts) h =
    let a = neither (f t) (list_any f ts) h in
    none_step (p t) a.0 (filter_none f p ts a.1)
  where
    none_step : (b : Bool) → f t ≡ false → list_any f (filter p ts) ≡ false
        → list_any f (cond b (t ∷ filter p ts) (filter p ts)) ≡ false
    none_step true e h = ap (λ x. x || list_any f (filter p ts)) e ∙ h
    none_step false e h = h

filter_apart : (p : FileNode → Bool) (ts : List FileNode) → AreApart ts → AreApart (filter p ts)
filter_apart p [] h = tt
filter_apart p (t ∷ ts) h = apart_step (p t) (filter_apart p ts h.1)
  where
    apart_step : (b : Bool) → AreApart (filter p ts) → AreApart (cond b (t ∷ filter p ts) (filter p ts))
    apart_step true r = (λ name e. filter_none (is_called name) p ts (h.0 name e), r)
    apart_step false r = r

pub filter_in_file : (p : FileNode → Bool) (ts : List FileNode) → AreInFile ts → AreInFile (filter p ts)
filter_in_file p [] h = tt
filter_in_file p (t ∷ ts) h = in_step (p t) (filter_in_file p ts h.1)
  where
    in_step : (b : Bool) → AreInFile (filter p ts) → AreInFile (cond b (t ∷ filter p ts) (filter p ts))
    in_step true r = (h.0, r)
    in_step false r = r

pub filter_few : (p : FileNode → Bool) (ts : List FileNode) → length (filter p ts) ≤ length ts
filter_few p [] = omega arith
filter_few p (t ∷ ts) = few_step (p t) (filter_few p ts)
  where
    few_step : (b : Bool) → length (filter p ts) ≤ length ts
        → length (cond b (t ∷ filter p ts) (filter p ts)) ≤ length (t ∷ ts)
    few_step true h = omega arith
    few_step false h = omega arith

behind_apart : (ts : List FileNode) → AreApart ts → AreApart (behind_first ts)
behind_apart [] h = tt
behind_apart (t ∷ ts) h = h.1

behind_in_file : (ts : List FileNode) → AreInFile ts → AreInFile (behind_first ts)
behind_in_file [] h = tt
behind_in_file (t ∷ ts) h = h.1

pub behind_few : (ts : List FileNode) → length (behind_first ts) ≤ length ts
behind_few [] = omega arith
behind_few (t ∷ ts) = omega arith

trees_few : (ns : List Node) → length (trees_of ns) ≤ length (flats 0 ns)
trees_few [] = omega arith
trees_few (n ∷ ns) = omega (
  arith,
  trees_few ns,
  length-append (items_of n 0) (flats 0 ns),
  ap length (flat_out n 0),
)

-- ---- the candidates of a forest
pub record AreCandidates (f : List Item) (all : List (Bor Node)) : Type 0 where
  pub are : trees_at all ≡ candidates f
  pub few : length all < 2 ^ 32
  pub apart : AreApart (trees_at all)
  pub in_file : AreInFile (trees_at all)

abbrev pub counts : FileNode → Bool
counts t = not (is_society t)

pub candidates_are : (ns : List Node) (f : List Item) (all : List (Bor Node)) → flats 0 ns ≡ f → IsForest f
    → length f < 2 ^ 32 → trees_at all ≡ filter counts (behind_first (trees_of ns)) → AreCandidates f all
candidates_are ns f all same is few e =
    let each : EachNode (flats 0 ns) = subst EachNode (sym same) is.nodes in
    let names : are_distinct (flats 0 ns) ≡ true = ap are_distinct same ∙ is.names in
    record {
      are = e ∙ ap (λ (ts : List FileNode). filter counts (behind_first ts)) (sym (nodes_same ns) ∙ ap nodes_of same);
      few = omega (
        arith,
        length-map all (λ (n : Bor Node). tree_of n.now),
        ap length e,
        filter_few counts (behind_first (trees_of ns)),
        behind_few (trees_of ns),
        trees_few ns,
        ap length same,
      );
      apart = subst AreApart (sym e) (filter_apart counts (behind_first (trees_of ns))
          (behind_apart (trees_of ns) (trees_apart ns names)));
      in_file = subst AreInFile (sym e) (filter_in_file counts (behind_first (trees_of ns))
          (behind_in_file (trees_of ns) (trees_fit ns each)));
    }

-- those that are kept
pub kept_few : (all found : List (Bor Node)) → trees_at found ≡ kept (trees_at all) → length all < 2 ^ 32
    → length found < 2 ^ 32
kept_few all found e few = omega (
  arith,
  length-map all (λ (n : Bor Node). tree_of n.now),
  length-map found (λ (n : Bor Node). tree_of n.now),
  ap length e,
  filter_few (is_kept (trees_at all)) (trees_at all),
)

pub kept_in_file : (all found : List (Bor Node)) → trees_at found ≡ kept (trees_at all) → AreInFile (trees_at all)
    → AreInFile (trees_at found)
kept_in_file all found e h = subst AreInFile (sym e) (filter_in_file (is_kept (trees_at all)) (trees_at all) h)
