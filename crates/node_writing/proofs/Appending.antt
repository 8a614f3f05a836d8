-- Text that is appended in steps: what is written so far, with the text of what is left, is all that is to be written.
use Rattle.std.specs.Prelude.{
  ℕ,
  ◌≡◌,
  ◌+◌,
  ◌-◌,
  ◌<◌,
  ◌≤◌,
  List,
  [],
  ◌∷◌,
  ◌++◌,
  map,
  length,
  get_or,
  drop,
  suc,
  zero,
  Some,
  None,
}
use Rattle.std.proofs.Common.{ap, sym, ◌∙◌, append_assoc, append-nil, arith}
use Rattle.std.proofs.Math.ListN.{drop_of_length-le}
use Rattle.stored_lines.specs.Tree.{Tree, node, none, forest_of, forest_size, tree_size}
use Rattle.stored_lines.specs.Levels.{levels, forest_levels}
use Rattle.stored_lines.proofs.Levels.{levels-one}
use Rattle.stored_lines.specs.Line.{Line, Lines}
use Rattle.stored_lines.specs.declared.carried.Value.{Value}
use Rattle.stored_lines.specs.declared.carried.Value.TheVariants as value
use Rattle.gedcom_line.specs.Spelling.{spelling}
use Rattle.record_shapes.specs.Shapes.{line, pointer_line}
use Rattle.gedcom_tree.specs.Text.{node_text}
use Rattle.gedcom_line.specs.Value.{Pointer}
use Rattle.node_writing.specs.Header.{leaf}
use Rattle.node_writing.specs.Nodes.{Mark, item_at, mark_of}
use Rattle.node_writing.specs.Pages.{nodes_text, page, record_page}
use Rattle.node_writing.proofs.Pages.{
  nodes-append,
  nodes-bare,
  nodes-below,
  page-append,
  page-bare,
  page-below,
  page-none,
  record-bare,
}
use Rattle.list_laws.proofs.Lists.{item_here}

-- a text is written, and more is left
pub then_text : (old new text more : List ℕ) → new ≡ old ++ text → new ++ more ≡ old ++ (text ++ more)
then_text old new text more e = ap (λ (x : List ℕ). x ++ more) e ∙ append_assoc old text more

module _ (level : ℕ) where
  -- nodes are written, and further nodes of that level are left
  pub then_nodes : (old new : List ℕ) (ts us : List (Tree Mark)) → new ≡ old ++ nodes_text level ts
      → new ++ nodes_text level us ≡ old ++ nodes_text level (ts ++ us)
  then_nodes old new ts us e = then_text old new (nodes_text level ts) (nodes_text level us) e
      ∙ ap (λ (x : List ℕ). old ++ x) (sym (nodes-append level ts us))

  -- a node is written, and those below it are left
  pub then_nodes_below : (old new : List ℕ) (m : Mark) (below : List (Tree Mark))
      → new ≡ old ++ nodes_text level (node m none ∷ [])
      → new ++ nodes_text (level + 1) below ≡ old ++ nodes_text level (node m (forest_of below) ∷ [])
  then_nodes_below old new m below e =
      then_text old new (nodes_text level (node m none ∷ [])) (nodes_text (level + 1) below) e
      ∙ ap (λ (x : List ℕ). old ++ x) (sym (nodes-below level m below))

  pub pointer_node : (tag raw : List ℕ) → nodes_text level (leaf tag (Pointer raw) ∷ [])
      ≡ spelling (record { level = level; xref = None; tag = tag; raw = raw }) ++ 10 ∷ []
  pointer_node tag raw = nodes-bare level (record { xref = None; tag = tag; value = Pointer raw })
      ∙ append-nil (spelling (record { level = level; xref = None; tag = tag; raw = raw }) ++ 10 ∷ [])

module _ (names : ℕ → List ℕ) (level : ℕ) where
  -- lines are written, and further lines of that level are left
  pub then_page : (old new : List ℕ) (ts us : Lines) → new ≡ old ++ page names level ts
      → new ++ page names level us ≡ old ++ page names level (ts ++ us)
  then_page old new ts us e = then_text old new (page names level ts) (page names level us) e
      ∙ ap (λ (x : List ℕ). old ++ x) (sym (page-append names level ts us))

  -- a line is written, and those below it are left
  pub then_below : (old new : List ℕ) (tag : List ℕ) (v : Value) (below : Lines)
      → new ≡ old ++ page names level (line tag v [] ∷ [])
      → new ++ page names (level + 1) below ≡ old ++ page names level (line tag v below ∷ [])
  then_below old new tag v below e =
      then_text old new (page names level (line tag v [] ∷ [])) (page names (level + 1) below) e
      ∙ ap (λ (x : List ℕ). old ++ x) (sym (page-below names level tag v below))

  -- the same where some of those below it are written
  pub then_more : (old new : List ℕ) (tag : List ℕ) (v : Value) (below more : Lines)
      → new ≡ old ++ page names level (line tag v below ∷ [])
      → new ++ page names (level + 1) more ≡ old ++ page names level (line tag v (below ++ more) ∷ [])
  then_more old new tag v below more e =
      let first : List ℕ = page names level (line tag v [] ∷ []) in
      then_text old new (page names level (line tag v below ∷ [])) (page names (level + 1) more) e
      ∙ ap (λ (x : List ℕ). old ++ x)
      (ap (λ (x : List ℕ). x ++ page names (level + 1) more) (page-below names level tag v below)
      ∙ append_assoc first (page names (level + 1) below) (page names (level + 1) more)
      ∙ ap (λ (x : List ℕ). first ++ x) (sym (page-append names (level + 1) below more))
      ∙ sym (page-below names level tag v (below ++ more)))

  none_left : (old : List ℕ) → old ++ page names level [] ≡ old
  none_left old = ap (λ (x : List ℕ). old ++ x) (page-none names level) ∙ append-nil old

  pub nothing : (old : List ℕ) (ts : Lines) → ts ≡ [] → old ≡ old ++ page names level ts
  nothing old ts e = sym (ap (λ (us : Lines). old ++ page names level us) e ∙ none_left old)

  -- one of the lines of a list is written, and the rest is left
  pub then_next : {A : Type 0} (f : A → Tree Line) (xs : List A) (i : ℕ) (x : A) (old new whole : List ℕ)
      → i < length xs → x ≡ get_or xs i x → new ≡ old ++ page names level (f x ∷ [])
      → old ++ page names level (map f (drop i xs)) ≡ whole
      → new ++ page names level (map f (drop (i + 1) xs)) ≡ whole
  then_next {A} f xs i x old new whole less at e before =
      then_page old new (f x ∷ []) (map f (drop (i + 1) xs)) e
      ∙ ap (λ (ys : List A). old ++ page names level (map f ys)) (sym (item_here xs i x less at)) ∙ before

  pub then_line : (ts : Lines) (i : ℕ) (t : Tree Line) (old new whole : List ℕ) → i < length ts → t ≡ get_or ts i t
      → new ≡ old ++ page names level (t ∷ []) → old ++ page names level (drop i ts) ≡ whole
      → new ++ page names level (drop (i + 1) ts) ≡ whole
  then_line ts i t old new whole less at e before =
      then_page old new (t ∷ []) (drop (i + 1) ts) e
      ∙ ap (λ (us : Lines). old ++ page names level us) (sym (item_here ts i t less at)) ∙ before

  -- all lines of a list are written
  pub all_written : {A : Type 0} (f : A → Tree Line) (xs : List A) (i : ℕ) (old whole : List ℕ) → length xs ≤ i
      → old ++ page names level (map f (drop i xs)) ≡ whole → old ≡ whole
  all_written {A} f xs i old whole short before =
      nothing old (map f (drop i xs)) (ap (map f) (drop_of_length-le xs short)) ∙ before

  pub lines_written : (ts : Lines) (i : ℕ) (old whole : List ℕ) → length ts ≤ i
      → old ++ page names level (drop i ts) ≡ whole → old ≡ whole
  lines_written ts i old whole short before = nothing old (drop i ts) (drop_of_length-le ts short) ∙ before

  -- the line of a tree is written, and its children are left
  pub then_children : (old new : List ℕ) (t : Tree Line) (tag said : List ℕ) (v : Value) (cs items : Lines)
      → node (record { tag = tag; value = v }) (forest_of cs) ≡ t → items ≡ cs → said ≡ tag
      → new ≡ old ++ page names level (line said v [] ∷ [])
      → new ++ page names (level + 1) items ≡ old ++ page names level (t ∷ [])
  then_children old new t tag said v cs items whole same named e =
      then_below old new said v items e
      ∙ (λ k. old ++ page names level (line (named k) v (same k) ∷ []))
      ∙ ap (λ (u : Tree Line). old ++ page names level (u ∷ [])) whole

  pub pointer_page : (tag : List ℕ) (n : ℕ) (raw : List ℕ) → raw ≡ names n
      → page names level (pointer_line tag n [] ∷ [])
      ≡ spelling (record { level = level; xref = None; tag = tag; raw = raw }) ++ 10 ∷ []
  pointer_page tag n raw e =
      page-bare names level tag (value.Ref n)
      ∙ append-nil (spelling (record { level = level; xref = None; tag = tag; raw = names n }) ++ 10 ∷ [])
      ∙ ap (λ (r : List ℕ). spelling (record { level = level; xref = None; tag = tag; raw = r }) ++ 10 ∷ []) (sym e)

-- the children of a line have room one level deeper
pub room_below : (t : Tree Line) (l : Line) (cs items : Lines) (level : ℕ) → node l (forest_of cs) ≡ t → items ≡ cs
    → level + levels t ≤ 255 → level + (forest_levels (forest_of items) + 1) ≤ 255
room_below t l cs items level whole same h =
    omega (arith, h, ap levels whole, ap (λ (us : Lines). forest_levels (forest_of us)) same)

-- one of them has that room
pub room_of : (ts : Lines) (i : ℕ) (t : Tree Line) (level : ℕ) → i < length ts → t ≡ get_or ts i t
    → level + (forest_levels (forest_of ts) + 1) ≤ 255 → level + 1 + levels t ≤ 255
room_of ts i t level less at h = omega (arith, h, levels-one ts i t less at)

size-one : (ts : Lines) (i : ℕ) (t : Tree Line) → i < length ts → t ≡ get_or ts i t
    → tree_size t ≤ forest_size (forest_of ts)
size-one [] i t less at = absurd (omega arith)
size-one (u ∷ ts) zero t less at = omega (arith, ap tree_size at)
size-one (u ∷ ts) (suc i) t less at = omega (arith, size-one ts i t (omega arith) at)

-- a child is smaller than its parent
pub child_smaller : (t : Tree Line) (l : Line) (cs items : Lines) (i : ℕ) (u : Tree Line) → node l (forest_of cs) ≡ t
    → items ≡ cs → i < length items → u ≡ get_or items i u → tree_size u < tree_size t
child_smaller t l cs items i u whole same less at =
    omega (
      arith,
      size-one items i u less at,
      ap tree_size whole,
      ap (λ (us : Lines). forest_size (forest_of us)) same,
    )

module _ (names : ℕ → List ℕ) (n : ℕ) (tag : List ℕ) where
  -- the line of a record, by the name that is written
  pub head_text : (v : Value) (x : List ℕ) → x ≡ names n → record_page names n (line tag v [])
      ≡ node_text (item_at (0, mark_of names (Some x) (record { tag = tag; value = v })))
  head_text v x e = record-bare names n tag v
      ∙ ap (λ (y : List ℕ). node_text (item_at (0, mark_of names (Some y) (record { tag = tag; value = v })))) (sym e)

  pub head_pointer : (k : ℕ) (x raw : List ℕ) → x ≡ names n → raw ≡ names k
      → record_page names n (line tag (value.Ref k) [])
      ≡ spelling (record { level = 0; xref = Some x; tag = tag; raw = raw }) ++ 10 ∷ []
  head_pointer k x raw e d =
      head_text (value.Ref k) x e
      ∙ append-nil (spelling (record { level = 0; xref = Some x; tag = tag; raw = names k }) ++ 10 ∷ [])
      ∙ ap (λ (r : List ℕ). spelling (record { level = 0; xref = Some x; tag = tag; raw = r }) ++ 10 ∷ []) (sym d)
