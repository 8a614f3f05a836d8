-- From a file with the forest of an export its nodes are found again, and the numbers of lines are not looked at.
use Rattle.std.specs.Prelude.{
  ℕ,
  zero,
  suc,
  ◌+◌,
  ◌≡◌,
  ◌==◌,
  ◌&&◌,
  ◌||◌,
  not,
  List,
  [],
  ◌∷◌,
  map,
  length,
  refl,
  Bool,
  true,
  false,
  cond,
  Option,
  Some,
  None,
}
use Rattle.std.specs.List.{filter, list_any}
use Rattle.std.proofs.Common.{ap, sym, ◌∙◌}
use Rattle.std.proofs.lemmas.List.{length-map}
use Rattle.std.proofs.lemmas.Simd.{map-map}
use Rattle.stored_lines.specs.Tree.{Tree, Forest, node, none, more, forest_of, label, relabel, relabel_all, flat_all}
use Rattle.stored_lines.specs.Growing.{fronts, backs, graft, grown}
use Rattle.stored_lines.specs.declared.carried.Value.{Value}
use Rattle.stored_lines.proofs.Relabel.{relabel_children}
use Rattle.gedcom_tree.specs.Forest.{Item}
use Rattle.gedcom_tree.specs.Text.{IsSame, unnumbered}
use Rattle.import_definitions.specs.Nodes.{FileLine, FileNode, leveled, nodes_of}
use Rattle.import_definitions.specs.Roots.{
  behind_first,
  candidates,
  is_called,
  is_kept,
  is_society,
  kept,
  leads,
  name_in,
  names_one,
}
use Rattle.import_definitions.specs.Lines.{
  Lined,
  lined_root,
  place_in,
  position_from,
  put,
  resolve,
  resolved,
  root_value,
  roots,
  unlined,
}
use Rattle.import_definitions.proofs.Trees.{grown-list}
use Rattle.node_writing.specs.Nodes.{Mark, item_at, items_at}
use Rattle.round_trip.proofs.Listed.{filter_under}
use Rattle.import_definitions.proofs.Lined.{bare}

-- ---- labels changed on the way
module _ {A B : Type 0} (h : A → B) where
  abbrev there : ℕ × Tree A → ℕ × Tree B
  there t = (t.0, relabel h t.1)

  fronts_there : (d : ℕ) (ts : List (ℕ × Tree A)) → fronts d (map there ts) ≡ map (relabel h) (fronts d ts)
  fronts_there d [] = refl
  fronts_there d (t ∷ ts) =
      elim (t.0 == d) as (λ b. cond b (relabel h t.1 ∷ fronts d (map there ts)) []
      ≡ map (relabel h) (cond b (t.1 ∷ fronts d ts) [])) [
        | true ↦ ap (λ us. relabel h t.1 ∷ us) (fronts_there d ts)
        | false ↦ refl
      ]

  backs_there : (d : ℕ) (ts : List (ℕ × Tree A)) → backs d (map there ts) ≡ map there (backs d ts)
  backs_there d [] = refl
  backs_there d (t ∷ ts) =
      elim (t.0 == d) as (λ b. cond b (backs d (map there ts)) (map there (t ∷ ts))
      ≡ map there (cond b (backs d ts) (t ∷ ts))) [
        | true ↦ backs_there d ts
        | false ↦ refl
      ]

  grown_there : (ls : List (ℕ × A)) → grown (map (λ (l : ℕ × A). (l.0, h l.1)) ls) ≡ map there (grown ls)
  grown_there [] = refl
  grown_there (l ∷ ls) =
      ap (graft l.0 (h l.1)) (grown_there ls)
      ∙ (λ i. (
        l.0,
        node (h l.1)
            ((ap forest_of (fronts_there (l.0 + 1) (grown ls)) ∙ sym (relabel_children h (fronts (l.0 + 1) (grown ls))))
            i),
      ) ∷ backs_there (l.0 + 1) (grown ls) i)

  seconds : (ts : List (ℕ × Tree A)) → map (λ (t : ℕ × Tree B). t.1) (map there ts)
      ≡ map (relabel h) (map (λ (t : ℕ × Tree A). t.1) ts)
  seconds [] = refl
  seconds (t ∷ ts) = ap (λ us. relabel h t.1 ∷ us) (seconds ts)

-- ---- the numbers of lines taken off; the nodes of an export as nodes of a file
abbrev pub clear : FileLine → FileLine
clear x = record { line = 0; xref = x.xref; tag = x.tag; value = x.value }

abbrev pub cleared : FileNode → FileNode
cleared = relabel clear

abbrev pub in_file : Mark → FileLine
in_file x = record { line = 0; xref = x.xref; tag = x.tag; value = x.value }

abbrev pub filed : Tree Mark → FileNode
filed = relabel in_file

clear_nodes : (f : List Item)
    → map cleared (nodes_of f) ≡ map (λ (t : ℕ × FileNode). t.1) (grown (map leveled (map unnumbered f)))
clear_nodes f =
    sym (seconds clear (grown (map leveled f)))
    ∙ ap (map (λ (t : ℕ × FileNode). t.1)) (sym (grown_there clear (map leveled f))
    ∙ ap grown (map-map (λ (l : ℕ × FileLine). (l.0, clear l.1)) leveled f ∙ sym (map-map leveled unnumbered f)))

clear_items : (ts : List (Tree Mark))
    → map (λ (t : ℕ × FileNode). t.1) (grown (map leveled (map unnumbered (items_at 0 ts)))) ≡ map filed ts
clear_items ts =
    let L = flat_all 0 (forest_of ts) in
    ap (λ ls. map (λ (t : ℕ × FileNode). t.1) (grown ls)) (map-map leveled unnumbered (map item_at L)
    ∙ map-map (λ (i : Item). leveled (unnumbered i)) item_at L)
    ∙ ap (map (λ (t : ℕ × FileNode). t.1)) (grown_there in_file L)
    ∙ seconds in_file (grown L)
    ∙ ap (map filed) (grown-list ts)

-- the nodes of a forest like that of nodes are these
pub nodes_again : (f : List Item) (ts : List (Tree Mark)) → IsSame f (items_at 0 ts)
    → map cleared (nodes_of f) ≡ map filed ts
nodes_again f ts e = clear_nodes f ∙ ap (λ us. map (λ (t : ℕ × FileNode). t.1) (grown (map leveled us))) e
    ∙ clear_items ts

-- ---- none of the stages looks at the numbers of lines
society_clear : (t : FileNode) → is_society (cleared t) ≡ is_society t
society_clear (node x f) = refl

called_clear : (name : List ℕ) (t : FileNode) → is_called name (cleared t) ≡ is_called name t
called_clear name (node x f) = refl

name_clear : (t : FileNode) → name_in (label (cleared t)) ≡ name_in (label t)
name_clear (node x f) = refl

behind_clear : (ts : List FileNode) → behind_first (map cleared ts) ≡ map cleared (behind_first ts)
behind_clear [] = refl
behind_clear (t ∷ ts) = refl

pub candidates_clear : (f : List Item) → map cleared (candidates f)
    ≡ filter (λ t. not (is_society t)) (behind_first (map cleared (nodes_of f)))
candidates_clear f =
    sym (ap (filter (λ t. not (is_society t))) (behind_clear (nodes_of f))
    ∙ filter_under cleared (λ t. not (is_society t)) (λ t. not (is_society t)) (behind_first (nodes_of f))
    (λ t. ap not (society_clear t)))

any_under : {A B : Type 0} (g : A → B) (p : B → Bool) (q : A → Bool) (xs : List A) → ((x : A) → p (g x) ≡ q x)
    → list_any p (map g xs) ≡ list_any q xs
any_under g p q [] h = refl
any_under g p q (x ∷ xs) h = λ i. h x i || any_under g p q xs h i

by_name : (ns : List FileNode) (p q : FileNode → Bool) → ((t : FileNode) → p (cleared t) ≡ q t) → (o : Option (List ℕ))
    → names_one p (map cleared ns) o ≡ names_one q ns o
by_name ns p q h None = refl
by_name ns p q h (Some name) = any_under cleared (λ t. is_called name t && p t) (λ t. is_called name t && q t) ns
    (λ t. λ i. called_clear name t i && h t i)

leads_clear : (ns : List FileNode) (k : ℕ) (t : FileNode) → leads (map cleared ns) k (cleared t) ≡ leads ns k t
leads_clear ns zero t = refl
leads_clear ns (suc k) t =
    ap (names_one (leads (map cleared ns) k) (map cleared ns)) (name_clear t)
    ∙ by_name ns (leads (map cleared ns) k) (leads ns k) (λ u. leads_clear ns k u) (name_in (label t))

pub kept_same : (ns : List FileNode) (t : FileNode) → is_kept (map cleared ns) (cleared t) ≡ is_kept ns t
unfolding is_kept
kept_same ns t = ap (λ k. leads (map cleared ns) k (cleared t)) (length-map {A = FileNode} ns cleared)
    ∙ leads_clear ns (length ns) t

pub kept_clear : (ns : List FileNode) → kept (map cleared ns) ≡ map cleared (kept ns)
kept_clear ns = filter_under cleared (is_kept (map cleared ns)) (is_kept ns) ns (kept_same ns)

pub position_clear : (name : List ℕ) (k : ℕ) (ns : List FileNode)
    → position_from (is_called name) k (map cleared ns) ≡ position_from (is_called name) k ns
position_clear name k [] = refl
position_clear name k (t ∷ ns) = λ i. cond (called_clear name t i) (Some k) (position_clear name (k + 1) ns i)

put_plain : (x : FileLine) (o : Option Value) (a b c d : Forest Lined) → relabel_all bare a ≡ relabel_all bare b
    → relabel_all bare c ≡ relabel_all bare d
    → relabel_all bare (put (clear x) o a c) ≡ relabel_all bare (put x o b d)
put_plain x None a b c d e g = g
put_plain x (Some v) a b c d e g = λ i. more (node (record { tag = x.tag; value = v }) (e i)) (g i)

resolved_clear : (place : List ℕ → Option ℕ) (f : Forest FileLine)
    → relabel_all bare (resolved place (relabel_all clear f)) ≡ relabel_all bare (resolved place f)
resolved_clear place none = refl
resolved_clear place (more (node x f) ts) =
    put_plain x (resolve place x.value) (resolved place (relabel_all clear f)) (resolved place f)
    (resolved place (relabel_all clear ts)) (resolved place ts) (resolved_clear place f) (resolved_clear place ts)

root_clear : (place : List ℕ → Option ℕ) (t : FileNode) → unlined (lined_root place (cleared t))
    ≡ unlined (lined_root place t)
root_clear place (node x f) = ap (node (record { tag = x.tag; value = root_value place x })) (resolved_clear place f)

map_same : {A B : Type 0} (f g : A → B) (xs : List A) → ((x : A) → f x ≡ g x) → map f xs ≡ map g xs
map_same f g [] h = refl
map_same f g (x ∷ xs) h = λ i. h x i ∷ map_same f g xs h i

pub roots_clear : (ns : List FileNode) → roots (map cleared ns) ≡ roots ns
unfolding roots
roots_clear ns =
    ap (λ (place : List ℕ → Option ℕ). map unlined (map (lined_root place) (map cleared ns)))
    (λ i name. position_clear name 0 ns i)
    ∙ map-map unlined (lined_root (place_in ns)) (map cleared ns)
    ∙ map-map (λ t. unlined (lined_root (place_in ns) t)) cleared ns
    ∙ map_same (λ t. unlined (lined_root (place_in ns) (cleared t))) (λ t. unlined (lined_root (place_in ns) t)) ns
    (root_clear (place_in ns))
    ∙ sym (map-map unlined (lined_root (place_in ns)) ns)
