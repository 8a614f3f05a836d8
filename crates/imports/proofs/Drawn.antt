-- What holds of a drawing from its begin on, where each step keeps it; and the numbers drawn count up.
use Rattle.std.proofs.Common.{
  ◌≡◌,
  ℕ,
  ◌+◌,
  ◌≤◌,
  List,
  [],
  ◌∷◌,
  ◌++◌,
  true,
  false,
  cond,
  refl,
  sym,
  ap,
  ◌∙◌,
  subst,
  arith,
}
use Rattle.std.specs.Prelude.{Option, Some, None, Result, Ok, Err, map, nat_lt}
use Rattle.std.proofs.lemmas.List.{map-append}
use Rattle.std.proofs.lemmas.Bool.Decides.{nat_tests}
use Rattle.record_text.specs.declared.refusal.Refusal.{Refusal}
use Rattle.record_text.specs.declared.refusal.RefusalKind.TheVariants.{Full}
use Rattle.stored_lines.specs.Tree.{Tree, Forest, node, none, more}
use Rattle.stored_lines.specs.Line.{Lines}
use Rattle.record_kinds.specs.declared.record.Record.{Record}
use Rattle.record_shapes.specs.Paths.{joined}
use Rattle.record_shapes.specs.Reading.{Draft, read, sought}
use Rattle.archive_state.specs.Changes.{Batch}
use Rattle.archive_state.specs.Content.{Content}
use Rattle.archive_state.specs.declared.changes.Numbered.{Numbered}
use Rattle.gedcom_tree.specs.Forest.{Item}
use Rattle.import_definitions.specs.Nodes.{FileNode}
use Rattle.import_definitions.specs.Roots.{candidates, kept}
use Rattle.import_definitions.specs.Sides.{draft_at}
use Rattle.import_definitions.specs.Numbers.{
  Drawing,
  Drawn,
  Found,
  Places,
  begun,
  draw,
  draw_all,
  draw_roots,
  drawn_more,
  find,
  finished,
  made_within,
  names_of,
  of_file,
  of_path,
  root_drawn,
  settle,
  unless_found,
  with_made,
}
use Rattle.import_definitions.specs.Made.{
  batch,
  drawing,
  lowest_place,
  made,
  places,
  second,
  unless_full,
  unless_second,
}
use Rattle.imports.specs.Read.{rows}
use Rattle.imports.specs.Imported.{CountUp, NumbersAreNew, numbers}

-- ---- each step keeps what holds
module _ (P : Drawing → Type 0)
    (file : (d : Drawing) (owner : ℕ) (r : Record) (path : Option (List ℕ)) → P d
    → P (drawn_more d (of_file d.next owner r path)))
    (place : (d : Drawing) (path name : List ℕ) (parent : Option Found) → P d → P (with_made path name parent d))
  where
    pub settled_keeps : (w : Places) (before : Option ℕ) (k : ℕ) (names : List (List ℕ)) (d : Drawing) → P d
        → P (settle w before k names d).0
    settled_keeps w before k [] d h = h
    settled_keeps w before k (name ∷ names) d h =
        let above : P (settle w (Some k) k names d).0 = settled_keeps w (Some k) k names d h in
        elim (find w before d.made (joined (name ∷ names))) as (λ o. P (unless_found o d
        (made_within (joined (name ∷ names)) name (settle w (Some k) k names d))).0) [
          | None ↦ place (settle w (Some k) k names d).0 (joined (name ∷ names)) name (settle w (Some k) k names d).1
              above
          | Some f ↦ h
        ]

    mutual
      pub draw_keeps : (w : Places) (k owner : ℕ) (d : Drawing) (t : Tree Draft) → P d → P (draw w k owner d t)
      draw_keeps w k owner d (node (read r path) f) h =
          draw_all_keeps w k d.next (drawn_more d (of_file d.next owner r path)) f (file d owner r path h)
      draw_keeps w k owner d (node (sought path) f) h = settled_keeps w None k (names_of path) d h

      pub draw_all_keeps : (w : Places) (k owner : ℕ) (d : Drawing) (f : Forest Draft) → P d
          → P (draw_all w k owner d f)
      draw_all_keeps w k owner d none h = h
      draw_all_keeps w k owner d (more t ts) h = draw_all_keeps w k owner (draw w k owner d t) ts
          (draw_keeps w k owner d t h)

    pub roots_keep : (root : (d : Drawing) → P d → P (root_drawn d)) (rs : Lines) (w : Places) (k : ℕ) (d : Drawing)
        (behind : Lines) → P d → P (draw_roots rs w k d behind)
    roots_keep root rs w k d [] h = h
    roots_keep root rs w k d (r ∷ behind) h =
        roots_keep root rs w (k + 1) (draw w k 0 (root_drawn d) (draft_at rs k r)) behind
        (draw_keeps w k 0 (root_drawn d) (draft_at rs k r) (root d h))

-- ---- numbers count up
abbrev pub number_drawn : Drawn → ℕ
number_drawn (of_file n owner r path) = n
number_drawn (of_path n name parent) = n

pub count_more : (first end : ℕ) (ns : List ℕ) → CountUp first end ns → CountUp first (end + 1) (ns ++ end ∷ [])
count_more first end [] h = let up : first + 1 ≡ end + 1 = ap (λ n. n + 1) h in (sym h, up)
count_more first end (n ∷ ns) h = (h.0, count_more (first + 1) end ns h.1)

abbrev pub DrawsUp : ℕ → Drawing → Type 0
DrawsUp first d = CountUp first d.next (map number_drawn d.drawn)

drawn_up : (first : ℕ) (d : Drawing) (x : Drawn) → number_drawn x ≡ d.next → DrawsUp first d
    → CountUp first (d.next + 1) (map number_drawn (d.drawn ++ x ∷ []))
drawn_up first d x e h = subst (CountUp first (d.next + 1))
    (sym (map-append number_drawn d.drawn (x ∷ []) ∙ ap (λ n. map number_drawn d.drawn ++ n ∷ []) e))
    (count_more first d.next (map number_drawn d.drawn) h)

pub all_up : (next : ℕ) (w : Places) (rs : Lines) → DrawsUp next (drawing next w rs)
all_up next w rs = roots_keep (DrawsUp next)
    (λ d owner r path h. drawn_up next d (of_file d.next owner r path) refl h)
    (λ d path name parent h. drawn_up next d (of_path d.next name parent) refl h)
    (λ d h. h) rs w 0 (begun next) rs refl

-- ---- the numbers of the batch
number_finished : (w : Places) (d : Drawing) (x : Drawn) → (finished w d x).number ≡ number_drawn x
number_finished w d (of_file n owner r path) = refl
number_finished w d (of_path n name parent) = refl

numbers_finished : (w : Places) (d : Drawing) (xs : List Drawn)
    → map (λ (p : Numbered). p.number) (map (finished w d) xs) ≡ map number_drawn xs
numbers_finished w d [] = refl
numbers_finished w d (x ∷ xs) = λ i. number_finished w d x i ∷ numbers_finished w d xs i

-- what is made where nothing is refused
pub record IsMade (w : Places) (d : Drawing) (b : Batch) : Type 0 where
  pub whole : b ≡ batch w d
  pub bounded : d.next ≤ 4294967296

not_second : (ks : List FileNode) (o : Option ℕ) (b : Result Batch Refusal) (x : Batch) → unless_second ks o b ≡ Ok x
    → (o ≡ None) × (b ≡ Ok x)
not_second ks None b x e = (refl, e)
not_second ks (Some k) b x e = absurd cc

not_full : (w : Places) (d : Drawing) (x : Batch) → unless_full w d ≡ Ok x → IsMade w d x
not_full w d x e =
    elim (nat_lt 4294967296 d.next) as (λ b. nat_lt 4294967296 d.next ≡ b
    → cond {A = Result Batch Refusal} b (Err (record { kind = Full; at = None })) (Ok (batch w d)) ≡ Ok x
    → IsMade w d x) [
      | true ↦ λ less f. absurd cc
      | false ↦ λ less f.
          let same : batch w d ≡ x = cc in
          record { whole = sym same; bounded = grind (arith, nat_tests) }
    ] refl e

abbrev pub places_by : Content → List Item → Places
places_by c f = places (lowest_place c.records) (rows f)

abbrev pub drawing_by : Content → List Item → Drawing
drawing_by c f = drawing c.next (places_by c f) (rows f)

pub made_is : (c : Content) (f : List Item) (b : Batch) → made c f ≡ Ok b
    → (second (rows f) 0 [] (rows f) ≡ None) × IsMade (places_by c f) (drawing_by c f) b
unfolding made
made_is c f b e =
    let one = not_second (kept (candidates f)) (second (rows f) 0 [] (rows f))
    (unless_full (places_by c f) (drawing_by c f)) b e in
    (one.0, not_full (places_by c f) (drawing_by c f) b one.1)

pub numbers_are_new : NumbersAreNew
numbers_are_new c f b e =
    let is = (made_is c f b e).1 in
    let w : Places = places_by c f in
    let d : Drawing = drawing_by c f in
    subst (λ (x : Batch). CountUp c.next x.next (numbers x) × (x.next ≤ 4294967296)) (sym is.whole)
    (subst (CountUp c.next d.next) (sym (numbers_finished w d d.drawn)) (all_up c.next w (rows f)), is.bounded)
