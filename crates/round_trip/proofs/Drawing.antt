-- Numbers drawn over nodes of which no place is sought are those in the order of the lines.
use Rattle.std.specs.Prelude.{ℕ, ◌≡◌, ◌+◌, ◌==◌, true, false, List, [], ◌∷◌, ◌++◌, map, length, cond, None, refl}
use Rattle.std.specs.List.{flat_map}
use Rattle.std.proofs.Common.{ap, sym, ◌∙◌, append-nil, append_assoc, length-append, subst, arith, eqb}
use Rattle.std.proofs.lemmas.Bool.{eqb-true}
use Rattle.std.proofs.lemmas.Bool.Decides.{nat_tests}
use Rattle.std.proofs.lemmas.List.{map-append}
use Rattle.stored_lines.specs.Tree.{
  Tree,
  Forest,
  node,
  none,
  more,
  label,
  relabel,
  relabel_all,
  flat,
  flat_all,
  tree_size,
  forest_size,
}
use Rattle.record_kinds.specs.declared.record.Record.{Record}
use Rattle.record_shapes.specs.Reading.{Draft, read}
use Rattle.record_shapes.specs.Lists.{IsOnce}
use Rattle.import_definitions.specs.Numbers.{
  Drawing,
  Drawn,
  Places,
  begun,
  draw,
  draw_all,
  drawn_more,
  of_file,
  root_drawn,
}
use Rattle.gedcom_export.specs.Order.{Numbered}
use Rattle.round_trip.specs.Positions.{numbers_in, position_of}
use Rattle.record_shapes.proofs.Each.{has}
use Rattle.list_laws.proofs.Booleans.{neither}

-- numbers drawn for trees of drafts, the first of which stands at position k
abbrev pub draw_trees : Places → ℕ → Drawing → List (Tree Draft) → Drawing
draw_trees w k d [] = d
draw_trees w k d (t ∷ ts) = draw_trees w (k + 1) (draw w k 0 (root_drawn d) t) ts

-- records of numbered trees, drawn with the numbers that f gives them, as g makes them
abbrev mutual
  pub drawn_by : (ℕ → ℕ) → (Record → Record) → ℕ → Tree Numbered → List Drawn
  drawn_by f g owner (node e ts) = of_file (f e.0) owner (g e.1) None ∷ all_drawn_by f g (f e.0) ts

  pub all_drawn_by : (ℕ → ℕ) → (Record → Record) → ℕ → Forest Numbered → List Drawn
  all_drawn_by f g owner none = []
  all_drawn_by f g owner (more t ts) = drawn_by f g owner t ++ all_drawn_by f g owner ts

module _ (g : Record → Record) where
  abbrev draft : Numbered → Draft
  draft e = read (g e.1) None

  -- records with numbers counted up, and their owners
  abbrev mutual
    counted : ℕ → ℕ → Tree Numbered → List Drawn
    counted n owner (node e ts) = of_file n owner (g e.1) None ∷ all_counted (n + 1) n ts

    all_counted : ℕ → ℕ → Forest Numbered → List Drawn
    all_counted n owner none = []
    all_counted n owner (more t ts) = counted n owner t ++ all_counted (n + tree_size t) owner ts

  abbrev drawn_further : Drawing → ℕ → List Drawn → Drawing
  drawn_further d n xs = record { next = d.next + n; roots = d.roots; drawn = d.drawn ++ xs; made = d.made }

  same_drawing : (n m : ℕ) (r : List ℕ) (xs ys : List Drawn) (d : Drawing) → n ≡ m → xs ≡ ys
      → (let a : Drawing = record { next = n; roots = r; drawn = xs; made = d.made } in a)
      ≡ record { next = m; roots = r; drawn = ys; made = d.made }
  same_drawing n m r xs ys d p q = λ i. record { next = p i; roots = r; drawn = q i; made = d.made }

  mutual
    draw_counted : (w : Places) (k owner : ℕ) (d : Drawing) (t : Tree Numbered)
        → draw w k owner d (relabel draft t) ≡ drawn_further d (tree_size t) (counted d.next owner t)
    draw_counted w k owner d (node e ts) =
        let x : Drawn = of_file d.next owner (g e.1) None in
        draw_all_counted w k d.next (drawn_more d x) ts
        ∙ same_drawing ((d.next + 1) + forest_size ts) (d.next + (forest_size ts + 1)) d.roots
        ((d.drawn ++ x ∷ []) ++ all_counted (d.next + 1) d.next ts)
        (d.drawn ++ x ∷ all_counted (d.next + 1) d.next ts) d (omega arith)
        (append_assoc d.drawn (x ∷ []) (all_counted (d.next + 1) d.next ts))

    draw_all_counted : (w : Places) (k owner : ℕ) (d : Drawing) (ts : Forest Numbered)
        → draw_all w k owner d (relabel_all draft ts) ≡ drawn_further d (forest_size ts) (all_counted d.next owner ts)
    draw_all_counted w k owner d none = same_drawing d.next (d.next + 0) d.roots d.drawn (d.drawn ++ []) d (omega arith)
        (sym (append-nil d.drawn))
    draw_all_counted w k owner d (more t ts) =
        ap (λ (c : Drawing). draw_all w k owner c (relabel_all draft ts)) (draw_counted w k owner d t)
        ∙ draw_all_counted w k owner (drawn_further d (tree_size t) (counted d.next owner t)) ts
        ∙ same_drawing ((d.next + tree_size t) + forest_size ts) (d.next + (tree_size t + forest_size ts)) d.roots
        ((d.drawn ++ counted d.next owner t) ++ all_counted (d.next + tree_size t) owner ts)
        (d.drawn ++ (counted d.next owner t ++ all_counted (d.next + tree_size t) owner ts)) d
        (omega arith) (append_assoc d.drawn (counted d.next owner t) (all_counted (d.next + tree_size t) owner ts))

  -- a map that counts the numbers of trees up
  abbrev pub Counts : (ℕ → ℕ) → ℕ → List ℕ → Type 0
  Counts f n [] = Unit {0}
  Counts f n (k ∷ ks) = (f k ≡ n) × Counts f (n + 1) ks

  counts_apart : (f : ℕ → ℕ) (n : ℕ) (a b : List ℕ) → Counts f n (a ++ b) → Counts f n a × Counts f (n + length a) b
  counts_apart f n [] b h = (tt, let e : n ≡ n + 0 = omega arith in subst (λ (m : ℕ). Counts f m b) e h)
  counts_apart f n (k ∷ a) b h =
      let more : Counts f (n + 1) a × Counts f ((n + 1) + length a) b = counts_apart f (n + 1) a b h.1 in
      let e : (n + 1) + length a ≡ n + length (k ∷ a) = omega arith in
      ((h.0, more.0), subst (λ (m : ℕ). Counts f m b) e more.1)

abbrev numbers_at : ℕ → Tree Numbered → List ℕ
numbers_at d t = map (λ (p : ℕ × Numbered). p.1.0) (flat d t)

abbrev numbers_all : ℕ → Forest Numbered → List ℕ
numbers_all d ts = map (λ (p : ℕ × Numbered). p.1.0) (flat_all d ts)

numbers_more : (d : ℕ) (t : Tree Numbered) (ts : Forest Numbered)
    → numbers_all d (more t ts) ≡ numbers_at d t ++ numbers_all d ts
numbers_more d t ts = map-append (λ (p : ℕ × Numbered). p.1.0) (flat d t) (flat_all d ts)

mutual
  length_at : (d : ℕ) (t : Tree Numbered) → length (numbers_at d t) ≡ tree_size t
  length_at d (node e ts) = let h : length (numbers_all (d + 1) ts) ≡ forest_size ts = length_all (d + 1) ts in
      omega arith

  length_all : (d : ℕ) (ts : Forest Numbered) → length (numbers_all d ts) ≡ forest_size ts
  length_all d none = refl
  length_all d (more t ts) = ap length (numbers_more d t ts) ∙ length-append (numbers_at d t) (numbers_all d ts)
      ∙ (let a : length (numbers_at d t) ≡ tree_size t = length_at d t in
      let b : length (numbers_all d ts) ≡ forest_size ts = length_all d ts in omega arith)

module _ (g : Record → Record) (f : ℕ → ℕ) where
  mutual
    counted_by : (d n owner : ℕ) (t : Tree Numbered) → Counts g f n (numbers_at d t)
        → counted g n owner t ≡ drawn_by f g owner t
    counted_by d n owner (node e ts) h =
        (λ i. of_file (sym h.0 i) owner (g e.1) None ∷ all_counted g (n + 1) (sym h.0 i) ts)
        ∙ ap (λ (xs : List Drawn). of_file (f e.0) owner (g e.1) None ∷ xs)
        (all_counted_by (d + 1) (n + 1) (f e.0) ts h.1)

    all_counted_by : (d n owner : ℕ) (ts : Forest Numbered) → Counts g f n (numbers_all d ts)
        → all_counted g n owner ts ≡ all_drawn_by f g owner ts
    all_counted_by d n owner none h = refl
    all_counted_by d n owner (more t ts) h =
        let both : Counts g f n (numbers_at d t) × Counts g f (n + length (numbers_at d t)) (numbers_all d ts) =
        counts_apart g f n (numbers_at d t) (numbers_all d ts) (subst (Counts g f n) (numbers_more d t ts) h) in
        let size : n + length (numbers_at d t) ≡ n + tree_size t = ap (λ m. n + m) (length_at d t) in
        λ i. counted_by d n owner t both.0 i
        ++ all_counted_by d (n + tree_size t) owner ts
        (subst (λ (m : ℕ). Counts g f m (numbers_all d ts)) size both.1) i

-- ---- several nodes
abbrev size_of : List (Tree Numbered) → ℕ
size_of [] = 0
size_of (t ∷ ts) = tree_size t + size_of ts

abbrev firsts : ℕ → List (Tree Numbered) → List ℕ
firsts n [] = []
firsts n (t ∷ ts) = n ∷ firsts (n + tree_size t) ts

module _ (g : Record → Record) where
  abbrev counted_each : ℕ → List (Tree Numbered) → List Drawn
  counted_each n [] = []
  counted_each n (t ∷ ts) = counted g n 0 t ++ counted_each (n + tree_size t) ts

  abbrev drawn_over : Drawing → List (Tree Numbered) → Drawing
  drawn_over d ts = record {
    next = d.next + size_of ts;
    roots = d.roots ++ firsts d.next ts;
    drawn = d.drawn ++ counted_each d.next ts;
    made = d.made;
  }

  draw_trees_counted : (w : Places) (k : ℕ) (d : Drawing) (ts : List (Tree Numbered))
      → draw_trees w k d (map (relabel (draft g)) ts) ≡ drawn_over d ts
  draw_trees_counted w k d [] =
      λ i. record {
        next = (let e : d.next ≡ d.next + 0 = omega arith in e) i;
        roots = sym (append-nil d.roots) i;
        drawn = sym (append-nil d.drawn) i;
        made = d.made;
      }
  draw_trees_counted w k d (t ∷ ts) =
      let e : (d.next + tree_size t) + size_of ts ≡ d.next + (tree_size t + size_of ts) = omega arith in
      ap (λ (c : Drawing). draw_trees w (k + 1) c (map (relabel (draft g)) ts)) (draw_counted g w k 0 (root_drawn d) t)
      ∙ draw_trees_counted w (k + 1) (drawn_further g (root_drawn d) (tree_size t) (counted g d.next 0 t)) ts
      ∙ (λ i. record {
        next = e i;
        roots = append_assoc d.roots (d.next ∷ []) (firsts (d.next + tree_size t) ts) i;
        drawn = append_assoc d.drawn (counted g d.next 0 t) (counted_each (d.next + tree_size t) ts) i;
        made = d.made;
      })

  size_is : (ts : List (Tree Numbered)) → size_of ts ≡ length (numbers_in ts)
  size_is [] = refl
  size_is (t ∷ ts) = let a : length (numbers_at 0 t) ≡ tree_size t = length_at 0 t in
      let b : size_of ts ≡ length (numbers_in ts) = size_is ts in
      (let e : tree_size t + size_of ts ≡ length (numbers_at 0 t) + length (numbers_in ts) = omega arith in e)
      ∙ sym (length-append (numbers_at 0 t) (numbers_in ts))

  module _ (f : ℕ → ℕ) where
    halves : (n : ℕ) (t : Tree Numbered) (ts : List (Tree Numbered)) → Counts g f n (numbers_in (t ∷ ts))
        → Counts g f n (numbers_at 0 t) × Counts g f (n + tree_size t) (numbers_in ts)
    halves n t ts h =
        let both : Counts g f n (numbers_at 0 t) × Counts g f (n + length (numbers_at 0 t)) (numbers_in ts) =
        counts_apart g f n (numbers_at 0 t) (numbers_in ts) h in
        let size : n + length (numbers_at 0 t) ≡ n + tree_size t = ap (λ m. n + m) (length_at 0 t) in
        (both.0, subst (λ (m : ℕ). Counts g f m (numbers_in ts)) size both.1)

    firsts_are : (n : ℕ) (ts : List (Tree Numbered)) → Counts g f n (numbers_in ts)
        → firsts n ts ≡ map (λ (t : Tree Numbered). f (label t).0) ts
    firsts_are n [] h = refl
    firsts_are n (node e us ∷ ts) h =
        let both = halves n (node e us) ts h in
        λ i. sym both.0.0 i ∷ firsts_are (n + tree_size (node e us)) ts both.1 i

    each_by : (n : ℕ) (ts : List (Tree Numbered)) → Counts g f n (numbers_in ts)
        → counted_each n ts ≡ flat_map (drawn_by f g 0) ts
    each_by n [] h = refl
    each_by n (t ∷ ts) h =
        let both = halves n t ts h in
        λ i. counted_by g f 0 n 0 t both.0 i ++ each_by (n + tree_size t) ts both.1 i

  -- positions count up where no number stands twice
  position_other : (j k : ℕ) (ks : List ℕ) → (j == k) ≡ false → position_of j (k ∷ ks) ≡ position_of j ks + 1
  position_other j k ks h =
      elim (eqb k j) as (λ b. eqb k j ≡ b → cond b 0 (position_of j ks + 1) ≡ position_of j ks + 1) [
        | true ↦ λ e. let same : k ≡ j = eqb-true k j e in absurd (grind (arith, nat_tests))
        | false ↦ λ e. refl
      ] refl

  positions_shift : (next n k : ℕ) (all ks : List ℕ) → has k ks ≡ false
      → Counts g (λ j. (next + 1) + position_of j all) n ks → Counts g (λ j. next + position_of j (k ∷ all)) n ks
  positions_shift next n k all [] h c = tt
  positions_shift next n k all (j ∷ ks) h c =
      let both : ((j == k) ≡ false) × (has k ks ≡ false) = neither (j == k) (has k ks) h in
      let e : position_of j (k ∷ all) ≡ position_of j all + 1 = position_other j k all both.0 in
      let d : (next + 1) + position_of j all ≡ n = c.0 in (
        (let x : next + position_of j (k ∷ all) ≡ n = omega arith in x),
        positions_shift next (n + 1) k all ks both.1 c.1,
      )

  position_first : (k : ℕ) (ks : List ℕ) → position_of k (k ∷ ks) ≡ 0
  position_first k ks = grind (arith, nat_tests)

  pub positions_count : (next : ℕ) (ks : List ℕ) → IsOnce ks → Counts g (λ j. next + position_of j ks) next ks
  positions_count next [] h = tt
  positions_count next (k ∷ ks) h =
      let e : position_of k (k ∷ ks) ≡ 0 = position_first k ks in (
        (let x : next + position_of k (k ∷ ks) ≡ next = omega arith in x),
        positions_shift next (next + 1) k ks ks h.0 (positions_count (next + 1) ks h.1),
      )

-- trees of numbered records, none twice: each gets its place in the order of the lines
pub draws_in_order : (w : Places) (g : Record → Record) (next : ℕ) (ts : List (Tree Numbered)) → IsOnce (numbers_in ts)
    → draw_trees w 0 (begun next) (map (relabel (λ (e : Numbered). read (g e.1) None)) ts) ≡ record {
      next = next + length (numbers_in ts);
      roots = map (λ (t : Tree Numbered). next + position_of (label t).0 (numbers_in ts)) ts;
      drawn = flat_map (drawn_by (λ n. next + position_of n (numbers_in ts)) g 0) ts;
      made = λ path. None;
    }
draws_in_order w g next ts once =
    let all = numbers_in ts in
    let f : ℕ → ℕ = λ n. next + position_of n all in
    let counts : Counts g f next all = positions_count g next all once in
    draw_trees_counted g w 0 (begun next) ts
    ∙ (λ i. record {
      next = next + size_is g ts i;
      roots = firsts_are g f next ts counts i;
      drawn = each_by g f next ts counts i;
      made = λ path. None;
    })
