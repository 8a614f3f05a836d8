-- Texts of nodes and pages of lines, put together from those of their parts.
use Rattle.std.specs.Prelude.{ℕ, ◌≡◌, ◌+◌, List, [], ◌∷◌, ◌++◌, map, refl, Some, None}
use Rattle.std.specs.List.{flat_map}
use Rattle.std.proofs.Common.{ap, sym, ◌∙◌, append_assoc, append-nil}
use Rattle.std.proofs.lemmas.List.{map-append}
use Rattle.std.proofs.lemmas.List.Concat.{flat_map-append}
use Rattle.stored_lines.specs.Tree.{Tree, Forest, node, none, forest_of, flat, flat_all, relabel}
use Rattle.stored_lines.specs.Line.{Lines}
use Rattle.stored_lines.specs.declared.carried.Value.{Value}
use Rattle.stored_lines.proofs.Relabel.{relabel_children}
use Rattle.gedcom_tree.specs.Text.{node_text}
use Rattle.record_shapes.specs.Shapes.{line}
use Rattle.node_writing.specs.Nodes.{Mark, item_at, mark_of, nodes_of}
use Rattle.node_writing.specs.Pages.{nodes_text, page, record_page}

-- the text of nodes in the order of their lines, each with its level
abbrev text_of : List (ℕ × Mark) → List ℕ
text_of ps = flat_map node_text (map item_at ps)

text-append : (ps qs : List (ℕ × Mark)) → text_of (ps ++ qs) ≡ text_of ps ++ text_of qs
text-append ps qs = ap (flat_map node_text) (map-append item_at ps qs)
    ∙ flat_map-append node_text (map item_at ps) (map item_at qs)

-- ---- nodes
pub nodes-none : (level : ℕ) → nodes_text level [] ≡ []
unfolding nodes_text
nodes-none level = refl

nodes-cons : (level : ℕ) (t : Tree Mark) (ts : List (Tree Mark))
    → nodes_text level (t ∷ ts) ≡ text_of (flat level t) ++ nodes_text level ts
unfolding nodes_text
nodes-cons level t ts = text-append (flat level t) (flat_all level (forest_of ts))

-- nodes side by side are written one after the other
pub nodes-append : (level : ℕ) (ts us : List (Tree Mark))
    → nodes_text level (ts ++ us) ≡ nodes_text level ts ++ nodes_text level us
nodes-append level [] us = ap (λ (x : List ℕ). x ++ nodes_text level us) (sym (nodes-none level))
nodes-append level (t ∷ ts) us =
    nodes-cons level t (ts ++ us)
    ∙ ap (λ (x : List ℕ). text_of (flat level t) ++ x) (nodes-append level ts us)
    ∙ sym (append_assoc (text_of (flat level t)) (nodes_text level ts) (nodes_text level us))
    ∙ ap (λ (x : List ℕ). x ++ nodes_text level us) (sym (nodes-cons level t ts))

nodes-one : (level : ℕ) (t : Tree Mark) → nodes_text level (t ∷ []) ≡ text_of (flat level t)
nodes-one level t = nodes-cons level t [] ∙ ap (λ (x : List ℕ). text_of (flat level t) ++ x) (nodes-none level)
    ∙ append-nil (text_of (flat level t))

-- a node with none below it
pub nodes-bare : (level : ℕ) (m : Mark) → nodes_text level (node m none ∷ []) ≡ node_text (item_at (level, m))
nodes-bare level m = nodes-one level (node m none) ∙ append-nil (node_text (item_at (level, m)))

-- a node is followed by those below it, one level deeper
pub nodes-below : (level : ℕ) (m : Mark) (below : List (Tree Mark)) → nodes_text level (node m (forest_of below) ∷ [])
    ≡ nodes_text level (node m none ∷ []) ++ nodes_text (level + 1) below
unfolding nodes_text
nodes-below level m below =
    nodes-one level (node m (forest_of below))
    ∙ ap (λ (x : List ℕ). x ++ nodes_text (level + 1) below) (sym (nodes-bare level m))

-- ---- lines
module _ (names : ℕ → List ℕ) where
  pub page-none : (level : ℕ) → page names level [] ≡ []
  unfolding page
  page-none level = nodes-none level

  -- lines side by side are written one after the other
  pub page-append : (level : ℕ) (ts us : Lines)
      → page names level (ts ++ us) ≡ page names level ts ++ page names level us
  unfolding page
  page-append level ts us = ap (nodes_text level) (map-append (relabel (mark_of names None)) ts us)
      ∙ nodes-append level (nodes_of names ts) (nodes_of names us)

  -- a line with none below it
  pub page-bare : (level : ℕ) (tag : List ℕ) (v : Value) → page names level (line tag v [] ∷ [])
      ≡ node_text (item_at (level, mark_of names None (record { tag = tag; value = v })))
  unfolding page
  page-bare level tag v = nodes-bare level (mark_of names None (record { tag = tag; value = v }))

  -- a line is followed by those below it, one level deeper
  pub page-below : (level : ℕ) (tag : List ℕ) (v : Value) (below : Lines) → page names level (line tag v below ∷ [])
      ≡ page names level (line tag v [] ∷ []) ++ page names (level + 1) below
  unfolding page
  page-below level tag v below =
      let m : Mark = mark_of names None (record { tag = tag; value = v }) in
      ap (λ (f : Forest Mark). nodes_text level (node m f ∷ [])) (relabel_children (mark_of names None) below)
      ∙ nodes-below level m (nodes_of names below)

  -- the line of a record, with none below it
  pub record-bare : (n : ℕ) (tag : List ℕ) (v : Value) → record_page names n (line tag v [])
      ≡ node_text (item_at (0, mark_of names (Some (names n)) (record { tag = tag; value = v })))
  unfolding record_page
  record-bare n tag v = nodes-bare 0 (mark_of names (Some (names n)) (record { tag = tag; value = v }))

  -- the line of a record is followed by those below it
  pub record-below : (n : ℕ) (tag : List ℕ) (v : Value) (below : Lines) → record_page names n (line tag v below)
      ≡ record_page names n (line tag v []) ++ page names 1 below
  unfolding page record_page
  record-below n tag v below =
      let m : Mark = mark_of names (Some (names n)) (record { tag = tag; value = v }) in
      ap (λ (f : Forest Mark). nodes_text 0 (node m f ∷ [])) (relabel_children (mark_of names None) below)
      ∙ nodes-below 0 m (nodes_of names below)
