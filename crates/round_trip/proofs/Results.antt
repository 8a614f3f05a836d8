-- What is made of the nodes of an export: every record, with the numbers in it changed alike, in the order of lines.
use Rattle.std.specs.Prelude.{ℕ, ◌≡◌, ◌+◌, true, cond, List, [], ◌∷◌, ◌++◌, map, length, Some, None, refl}
use Rattle.std.specs.List.{filter, flat_map}
use Rattle.std.specs.Option.{unwrap_or}
use Rattle.std.specs.FinMap.{entries}
use Rattle.std.proofs.Common.{ap, sym, ◌∙◌, arith}
use Rattle.std.proofs.lemmas.Bool.{eqb-true}
use Rattle.std.proofs.lemmas.List.{map-append}
use Rattle.std.proofs.lemmas.Option.{unwrap_or-slice_get}
use Rattle.std.proofs.lemmas.Simd.{map-map}
use Rattle.stored_lines.specs.Tree.{Tree, Forest, node, none, more, forest_of, label, flat, flat_all}
use Rattle.stored_lines.specs.Line.{Lines}
use Rattle.record_kinds.specs.declared.record.Record.{Record}
use Rattle.record_kinds.specs.declared.record.Record.TheVariants as kind
use Rattle.archive_state.specs.Links.{at_level_0}
use Rattle.record_shapes.specs.Lists.{EachOf}
use Rattle.archive_state.specs.Content.{Content, Records}
use Rattle.archive_state.specs.Merging.{record_with}
use Rattle.archive_state.specs.Sound.{IsSound}
use Rattle.archive_state.specs.Sound as sound
use Rattle.archive_state.specs.declared.changes.Numbered as put
use Rattle.import_definitions.specs.Numbers.{
  Drawing,
  Places,
  begun,
  draw,
  draw_roots,
  finished,
  number_at,
  owned_by,
  results,
  root_drawn,
}
use Rattle.import_definitions.specs.Sides.{draft_at, drafts_from}
use Rattle.gedcom_export.specs.Order.{Numbered, citations_of, household, households, is_citation_of, is_event_of}
use Rattle.round_trip.specs.Positions.{new_number, nodes_by_position, numbers_in, position_of}
use Rattle.round_trip.proofs.Entries.{entries_stand, keys, Stands}
use Rattle.round_trip.proofs.Found.{wanted_has}
use Rattle.round_trip.proofs.Households.{have_all}
use Rattle.round_trip.proofs.Listed.{each_filter}
use Rattle.round_trip.proofs.Nodes.{pos, positions_are}
use Rattle.round_trip.proofs.Ordered.{order, order_stands, StandsAt0}
use Rattle.round_trip.specs.Drafts.{without_owner}
use Rattle.round_trip.specs.ReadingLaws.{DraftsComeBack}
use Rattle.round_trip.proofs.Placed.{at_all}
use Rattle.round_trip.proofs.Drawing.{all_drawn_by, draw_trees, drawn_by, draws_in_order}
use Rattle.round_trip.proofs.Twice.{OwnedBy, record_twice}
use Rattle.record_shapes.proofs.Each.{has}
use Rattle.list_laws.proofs.Booleans.{true_not_false}

-- ---- along a tree
module _ (w : Places) (d : Drawing) (h : ℕ → ℕ) (g : Record → Record) where
  abbrev mutual
    Right : ℕ → Tree Numbered → Type 0
    Right o (node e ts) = (owned_by o (record_with (number_at d.roots) (g e.1)) ≡ record_with h e.1)
        × RightAll (h e.0) ts

    RightAll : ℕ → Forest Numbered → Type 0
    RightAll o none = Unit {0}
    RightAll o (more t ts) = Right o t × RightAll o ts

  abbrev new_one : ℕ × Numbered → put.Numbered
  new_one p = record { number = h p.1.0; «record» = record_with h p.1.1 }

  mutual
    tree_made : (k o : ℕ) (t : Tree Numbered) → Right o t → map (finished w d) (drawn_by h g o t)
        ≡ map new_one (flat k t)
    tree_made k o (node e ts) r = λ i. record { number = h e.0; «record» = r.0 i }
        ∷ forest_made (k + 1) (h e.0) ts r.1 i

    forest_made : (k o : ℕ) (ts : Forest Numbered) → RightAll o ts
        → map (finished w d) (all_drawn_by h g o ts) ≡ map new_one (flat_all k ts)
    forest_made k o none r = refl
    forest_made k o (more t ts) r =
        map-append (finished w d) (drawn_by h g o t) (all_drawn_by h g o ts)
        ∙ (λ i. tree_made k o t r.0 i ++ forest_made k o ts r.1 i)
        ∙ sym (map-append new_one (flat k t) (flat_all k ts))

  all_made : (ts : List (Tree Numbered)) → EachOf (Right 0) ts
      → map (finished w d) (flat_map (drawn_by h g 0) ts) ≡ map new_one (flat_map (flat 0) ts)
  all_made [] r = refl
  all_made (t ∷ ts) r =
      map-append (finished w d) (drawn_by h g 0 t) (flat_map (drawn_by h g 0) ts)
      ∙ (λ i. tree_made 0 0 t r.0 i ++ all_made ts r.1 i)
      ∙ sym (map-append new_one (flat 0 t) (flat_map (flat 0) ts))

number_of : (f : ℕ → ℕ) (n : ℕ) (ks : List ℕ) → has n ks ≡ true → number_at (map f ks) (position_of n ks) ≡ f n
number_of f n ks h = sym (unwrap_or-slice_get (map f ks) (position_of n ks) 0)
    ∙ ap (λ o. unwrap_or o 0) (at_all f n ks ∙ ap (λ b. cond b (Some (f n)) None) h)

draws_trees : (rs : Lines) (w : Places) (k : ℕ) (d : Drawing) (behind : Lines)
    → draw_roots rs w k d behind ≡ draw_trees w k d (drafts_from rs k behind)
draws_trees rs w k d [] = refl
draws_trees rs w k d (r ∷ behind) = draws_trees rs w (k + 1) (draw w k 0 (root_drawn d) (draft_at rs k r)) behind

module _ (c : Content) (is : IsSound c) (w : Places) where
  abbrev m : Records
  m = c.records

  abbrev es : List Numbered
  es = entries m

  abbrev numbers : List ℕ
  numbers = numbers_in (households m)

  abbrev h : ℕ → ℕ
  h n = 1 + position_of n numbers

  abbrev g : Record → Record
  g r = without_owner (record_with (pos m) r)

  abbrev pub drawn : Drawing
  drawn = record {
    next = 1 + length numbers;
    roots = map (λ (t : Tree Numbered). h (label t).0) (households m);
    drawn = flat_map (drawn_by h g 0) (households m);
    made = λ path. None;
  }

  -- ---- numbers for positions
  root_is : (n : ℕ) → sound.Stands m (n, at_level_0) → number_at drawn.roots (pos m n) ≡ h n
  root_is n z =
      (λ i. number_at (map-map (λ (t : Tree Numbered). h (label t).0) (household es) (order m) i) (positions_are m n i))
      ∙ ap (λ ks. number_at ks (position_of n (keys (order m)))) (sym (map-map h (λ (e : Numbered). e.0) (order m)))
      ∙ number_of h n (keys (order m)) (wanted_has c is n z)

  abbrev Owner : ℕ → Numbered → Type 0
  Owner o e = OwnedBy m (number_at drawn.roots) (pos m) h root_is o e.1

  one_right : (o : ℕ) (e : Numbered) → Stands m e → Owner o e
      → owned_by o (record_with (number_at drawn.roots) (g e.1)) ≡ record_with h e.1
  one_right o e st own = record_twice m (number_at drawn.roots) (pos m) h root_is o e.1 (is.named e.0 e.1 st) own

  citation_owner : (k : ℕ) (e : Numbered) → is_citation_of k e.1 ≡ true → Owner (h k) e
  citation_owner k (n, kind.Citation x) z = ap h (sym (eqb-true x.owner k z))
  citation_owner k (n, _) z = absurd (true_not_false (sym z))

  event_owner : (k : ℕ) (e : Numbered) → is_event_of k e.1 ≡ true → Owner (h k) e
  event_owner k (n, kind.Event x) z = ap h (sym (eqb-true x.owner k z))
  event_owner k (n, _) z = absurd (true_not_false (sym z))

  root_owner : (e : Numbered) → StandsAt0 m e → Owner 0 e
  root_owner (n, kind.Event x) st = absurd (true_not_false (sym st.1))
  root_owner (n, kind.Citation x) st = absurd (true_not_false (sym st.1))
  root_owner (n, _) st = tt

  -- ---- households
  abbrev Cites : ℕ → Numbered → Type 0
  Cites k e = Stands m e × (is_citation_of k e.1 ≡ true)

  abbrev Happens : ℕ → Numbered → Type 0
  Happens k e = Stands m e × (is_event_of k e.1 ≡ true)

  cited : (k : ℕ) → EachOf (Cites k) (filter (λ (e : Numbered). is_citation_of k e.1) es)
  cited k = each_filter (Stands m) (λ (e : Numbered). is_citation_of k e.1) es (entries_stand m)

  leaves_right : (k : ℕ) (xs : List Numbered) → EachOf (Cites k) xs
      → RightAll w drawn h g (h k) (forest_of (map (λ (e : Numbered). node e none) xs))
  leaves_right k [] z = tt
  leaves_right k (x ∷ xs) z = ((one_right (h k) x z.0.0 (citation_owner k x z.0.1), tt), leaves_right k xs z.1)

  branches_right : (k : ℕ) (xs ys : List Numbered) → EachOf (Happens k) xs → EachOf (Cites k) ys
      → RightAll w drawn h g (h k)
      (forest_of (map (λ (e : Numbered). node e (forest_of (citations_of es e.0))) xs
      ++ map (λ (e : Numbered). node e none) ys))
  branches_right k [] ys z y = leaves_right k ys y
  branches_right k (x ∷ xs) ys z y = (
    (
      one_right (h k) x z.0.0 (event_owner k x z.0.1),
      leaves_right x.0 (filter (λ (e : Numbered). is_citation_of x.0 e.1) es) (cited x.0),
    ),
    branches_right k xs ys z.1 y,
  )

  household_right : (e : Numbered) → StandsAt0 m e → Right w drawn h g 0 (household es e)
  household_right e st = (
    one_right 0 e st.0 (root_owner e st),
    branches_right e.0 (filter (λ (x : Numbered). is_event_of e.0 x.1) es)
        (filter (λ (x : Numbered). is_citation_of e.0 x.1) es)
        (each_filter (Stands m) (λ (x : Numbered). is_event_of e.0 x.1) es (entries_stand m)) (cited e.0),
  )

  households_right : (xs : List Numbered) → EachOf (StandsAt0 m) xs
      → EachOf (Right w drawn h g 0) (map (household es) xs)
  households_right [] z = tt
  households_right (x ∷ xs) z = (household_right x z.0, households_right xs z.1)

  same_numbers : h ≡ new_number m
  same_numbers = λ i n. (let e : 1 + position_of n numbers ≡ position_of n numbers + 1 = omega arith in e) i

  abbrev pub new_record : ℕ × Numbered → put.Numbered
  new_record p = record { number = new_number m p.1.0; «record» = record_with (new_number m) p.1.1 }

  pub results_are : results w drawn ≡ map new_record (flat_map (flat 0) (households m))
  results_are =
      all_made w drawn h g (households m) (households_right (order m) (order_stands m))
      ∙ (λ i. map (λ (p : ℕ × Numbered).
      (let z : put.Numbered =
      record { number = same_numbers i p.1.0; «record» = record_with (same_numbers i) p.1.1 } in z))
      (flat_map (flat 0) (households m)))

  -- ---- what is drawn for the nodes
  pub drawn_is : DraftsComeBack → draw_roots (nodes_by_position m) w 0 (begun 1) (nodes_by_position m) ≡ drawn
  drawn_is drafts_back =
      draws_trees (nodes_by_position m) w 0 (begun 1) (nodes_by_position m)
      ∙ ap (draw_trees w 0 (begun 1)) (drafts_back c is)
      ∙ draws_in_order w g 1 (households m) (have_all c is).0
