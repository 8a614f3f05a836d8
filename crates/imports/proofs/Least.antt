-- Drawing never lowers the next number.
use Rattle.std.proofs.Common.{◌≡◌, ℕ, ◌+◌, ◌≤◌, List, [], ◌∷◌, map, sym, subst, arith}
use Rattle.std.specs.Prelude.{Option, Some, None}
use Rattle.stored_lines.specs.Tree.{Tree, Forest, forest_of, node, none, more}
use Rattle.record_kinds.specs.declared.record.Record.{Record}
use Rattle.record_shapes.specs.Paths.{joined}
use Rattle.record_shapes.specs.Reading.{Draft, read, sought}
use Rattle.import_definitions.specs.Numbers.{
  Drawing,
  Places,
  draw,
  draw_all,
  drawn_more,
  find,
  made_within,
  names_of,
  of_file,
  root_drawn,
  settle,
  unless_found,
}
use Rattle.imports.specs.Drafts.{draw_each}

module _ (least : ℕ) (w : Places) where
  pub settled_above : (before : Option ℕ) (k : ℕ) (names : List (List ℕ)) (d : Drawing) → least ≤ d.next
      → least ≤ (settle w before k names d).0.next
  settled_above before k [] d h = h
  settled_above before k (name ∷ names) d h =
      let above : least ≤ (settle w (Some k) k names d).0.next = settled_above (Some k) k names d h in
      let up : least ≤ (settle w (Some k) k names d).0.next + 1 = omega arith in
      elim (find w before d.made (joined (name ∷ names))) as (λ o. least ≤ (unless_found o d
      (made_within (joined (name ∷ names)) name (settle w (Some k) k names d))).0.next) [
        | None ↦ up
        | Some f ↦ h
      ]

  mutual
    pub drawn_above : (k owner : ℕ) (d : Drawing) (t : Tree Draft) → least ≤ d.next → least ≤ (draw w k owner d t).next
    drawn_above k owner d (node (read r path) f) h =
        let up : least ≤ d.next + 1 = omega arith in
        all_above k d.next (drawn_more d (of_file d.next owner r path)) f up
    drawn_above k owner d (node (sought path) f) h = settled_above None k (names_of path) d h

    pub all_above : (k owner : ℕ) (d : Drawing) (f : Forest Draft) → least ≤ d.next
        → least ≤ (draw_all w k owner d f).next
    all_above k owner d none h = h
    all_above k owner d (more t ts) h = all_above k owner (draw w k owner d t) ts (drawn_above k owner d t h)

  pub each_above : (k : ℕ) (d : Drawing) (ts : List (Tree Draft)) → least ≤ d.next → least ≤ (draw_each w k d ts).next
  each_above k d [] h = h
  each_above k d (t ∷ ts) h = each_above (k + 1) (draw w k 0 (root_drawn d) t) ts (drawn_above k 0 (root_drawn d) t h)

-- one after the other
pub one_above : {X : Type 0} (w : Places) (k owner : ℕ) (d : Drawing) (tree : X → Tree Draft) (x : X)
    (behind all : List X)
    → all ≡ x ∷ behind → (draw w k owner d (tree x)).next ≤ (draw_all w k owner d (forest_of (map tree all))).next
one_above w k owner d tree x behind all e =
    let first : Drawing = draw w k owner d (tree x) in
    let self : first.next ≤ first.next = omega arith in
    subst (λ xs. first.next ≤ (draw_all w k owner d (forest_of (map tree xs))).next) (sym e)
    (all_above first.next w k owner first (forest_of (map tree behind)) self)

-- a record draws a number
pub read_above : (w : Places) (k owner : ℕ) (d : Drawing) (r : Record) (path : Option (List ℕ)) (f : Forest Draft)
    → d.next + 1 ≤ (draw w k owner d (node (read r path) f)).next
read_above w k owner d r path f =
    let self : d.next + 1 ≤ d.next + 1 = omega arith in
    all_above (d.next + 1) w k d.next (drawn_more d (of_file d.next owner r path)) f self

-- one node after the other
pub root_above : {X : Type 0} (w : Places) (k : ℕ) (d : Drawing) (tree : X → Tree Draft) (x : X) (behind all : List X)
    → all ≡ x ∷ behind → (draw w k 0 (root_drawn d) (tree x)).next ≤ (draw_each w k d (map tree all)).next
root_above w k d tree x behind all e =
    let first : Drawing = draw w k 0 (root_drawn d) (tree x) in
    let self : first.next ≤ first.next = omega arith in
    subst (λ xs. first.next ≤ (draw_each w k d (map tree xs)).next) (sym e)
    (each_above first.next w (k + 1) first (map tree behind) self)
