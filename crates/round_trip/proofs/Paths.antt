-- The paths of the places of an export are found in its file.
use Rattle.std.specs.Prelude.{
  ℕ,
  ◌≡◌,
  ◌<◌,
  nat_lt,
  Bool,
  true,
  false,
  cond,
  List,
  [],
  ◌∷◌,
  ◌++◌,
  map,
  codes,
  Option,
  Some,
  None,
  option_map,
  refl,
  bytes_eq,
  IfSome,
  slice_get,
}
use Rattle.std.specs.List.{list_any}
use Rattle.std.specs.Option.{unwrap_or}
use Rattle.std.specs.FinMap.{get}
use Rattle.std.proofs.Common.{ap, sym, ◌∙◌, append-nil, append_assoc, subst}
use Rattle.std.proofs.lemmas.List.{map-append}
use Rattle.stored_lines.specs.Tree.{forest_of}
use Rattle.stored_lines.specs.Line.{Lines}
use Rattle.stored_lines.proofs.Back.{list_of_forest_of}
use Rattle.record_kinds.specs.Model as model
use Rattle.record_kinds.specs.declared.record.Record.{Record}
use Rattle.record_kinds.specs.declared.record.Record.TheVariants as kind
use Rattle.record_shapes.specs.Forms.{Known, below}
use Rattle.record_shapes.specs.Fields.{is_above, path_below}
use Rattle.record_shapes.specs.Laws.{FindsPath}
use Rattle.record_shapes.specs.Lists.{EachOf}
use Rattle.record_shapes.specs.Readable.{IsReadablePlace}
use Rattle.record_shapes.specs.Reading.{path_from}
use Rattle.record_shapes.specs.Shapes.{loc_lines, place_lines, text_line}
use Rattle.archive_state.specs.Content.{Content, Records}
use Rattle.archive_state.specs.Known.{known_before, known_of, path_of}
use Rattle.archive_state.specs.Merging.{line_with, lines_with, place_with}
use Rattle.archive_state.specs.Sound.{IsSound}
use Rattle.archive_state.proofs.Climbing.{goes_path}
use Rattle.archive_state.proofs.Known.{path_known}
use Rattle.import_definitions.specs.Positions.{known, known_by, path_behind, paths, paths_behind}
use Rattle.gedcom_export.specs.Order.{Numbered}
use Rattle.round_trip.specs.Positions.{nodes_by_position}
use Rattle.round_trip.proofs.Entries.{keys}
use Rattle.round_trip.proofs.Ordered.{order, order_has, order_stands, StandsAt0}
use Rattle.round_trip.proofs.Nodes.{node_tree, nodes_are, pos, positions_are}
use Rattle.round_trip.proofs.Renamed.{both, list_relabelled, locs}
use Rattle.round_trip.proofs.Placed.{IsNoPlace, at_all, path_before, path_if, path_of_none}
use Rattle.round_trip.proofs.Readable.{ReadsSound, shaped}
use Rattle.round_trip.specs.ReadingLaws.{IsKnownAgain}
use Rattle.round_trip.proofs.Seen.{tags_back}
use Rattle.round_trip.proofs.Reshaped.{place_alike}
use Rattle.record_shapes.proofs.Each.{has}
use Rattle.list_laws.proofs.Booleans.{neither, true_not_false}

module _ (c : Content) (is : IsSound c) (reads : ReadsSound) (finds : FindsPath) where
  abbrev m : Records
  m = c.records

  abbrev rs : Lines
  rs = nodes_by_position m

  -- ---- one place
  module _ (done rest : List ℕ) (k : ℕ) (p : model.Place) (all : done ++ k ∷ rest ≡ keys (order m))
      (here : get m k ≡ Some (kind.Place p)) where
    abbrev earlier : Known
    earlier = known_by rs (map (path_of m) done)

    abbrev moved : model.Place
    moved = place_with (pos m) p

    lines_are : below (node_tree m (k, kind.Place p)) ≡ place_lines moved
    lines_are = list_relabelled (line_with (pos m)) (forest_of (place_lines p))
        ∙ ap (lines_with (pos m)) (list_of_forest_of (place_lines p))
        ∙ ap (λ (us : Lines). text_line (codes "NAME") p.name ∷ us)
        (both (pos m) (loc_lines p.parent) p.carried (loc_lines (option_map (pos m) p.parent))
        (lines_with (pos m) p.carried) (locs (pos m) p.parent) refl)

    readable : IsReadablePlace (known_before m k) p
    readable = (shaped c is reads (k, kind.Place p) (here, refl)).0

    readable_moved : IsReadablePlace earlier moved
    readable_moved = place_alike (pos m) (known_before m k) earlier (path_before m done rest k p all here) p readable

    -- the path of the place above it is known
    above_known : (q : ℕ) → p.parent ≡ Some q → (above : List ℕ) × ((known_before m k).path q ≡ Some above)
        × (path_of m q ≡ Some above)
    above_known q e = by (nat_lt q k) (path_of m q) refl refl (readable.parent q e)
      where
        by : (b : Bool) (o : Option (List ℕ)) → nat_lt q k ≡ b → path_of m q ≡ o
            → is_above p.name (cond b o None) ≡ true
            → (above : List ℕ) × (cond b (path_of m q) None ≡ Some above) × (path_of m q ≡ Some above)
        by false o x y h = absurd (true_not_false (sym h))
        by true None x y h = absurd (true_not_false (sym h))
        by true (Some above) x y h = (above, y, y)

    found_from : (o : Option ℕ) → p.parent ≡ o
        → (let z : Option (List ℕ) = Some (path_from earlier (place_lines moved)) in z) ≡ path_of m k
    found_from None e =
        ap (λ t. let z : Option (List ℕ) = Some t in z)
        ((finds earlier moved readable_moved).0 (ap (option_map (pos m)) e))
        ∙ sym ((path_known m k p.name).0 (goes_path m k p p.name None here e refl))
    found_from (Some q) e =
        let up = above_known q e in
        let less : q < k = subst (λ (o : Option ℕ). IfSome o (λ j. j < k)) e (is.rules.parents k (kind.Place p) here) in
        ap (λ t. let z : Option (List ℕ) = Some t in z)
        ((finds earlier moved readable_moved).1 (pos m q) up.0 (ap (option_map (pos m)) e)
        (path_before m done rest k p all here q ∙ up.1))
        ∙ sym ((path_known m k (path_below p.name up.0)).0
        (goes_path m k p (path_below p.name up.0) (Some q) here e (less, (up.0, refl, (path_known m q up.0).1 up.2))))

    place_step : path_behind rs (map (path_of m) done) (node_tree m (k, kind.Place p)) ≡ path_of m k
    place_step = ap (λ ts. let z : Option (List ℕ) = Some (path_from earlier ts) in z) lines_are
        ∙ found_from p.parent refl

  -- ---- all
  abbrev ps : List Numbered → List (Option (List ℕ))
  ps es = map (path_of m) (keys es)

  no_loc : (o : model.Other) (k : ℕ) → get m k ≡ Some (kind.Other o) → bytes_eq o.tag (codes "_LOC") ≡ false
  no_loc o k g = (neither (bytes_eq o.tag (codes "_LOC"))
      (list_any (bytes_eq o.tag) (codes "REPO" ∷ codes "SOUR" ∷ codes "INDI" ∷ codes "FAM" ∷ []))
      (is.rules.shapes k (kind.Other o) g).own).0

  none_here : (k : ℕ) (o : Option Record) → get m k ≡ o → IsNoPlace m o → None ≡ path_of m k
  none_here k o g h = sym (path_of_none m k (subst (IsNoPlace m) (sym g) h))

  any_step : (done rest : List Numbered) (e : Numbered) → done ++ e ∷ rest ≡ order m → StandsAt0 m e
      → path_behind rs (ps done) (node_tree m e) ≡ path_of m e.0
  any_step done rest (k, kind.Place p) all st =
      place_step (keys done) (keys rest) k p (sym (map-append (λ (e : Numbered). e.0) done ((k, kind.Place p) ∷ rest))
      ∙ ap keys all) st.0
  any_step done rest (k, kind.Other o) all st =
      ap (λ b. cond b (let z : Option (List ℕ) =
      Some (path_from (known_by rs (ps done)) (below (node_tree m (k, kind.Other o)))) in z) None) (no_loc o k st.0)
      ∙ none_here k (Some (kind.Other o)) st.0 tt
  any_step done rest (k, kind.Event x) all st = absurd (true_not_false (sym st.1))
  any_step done rest (k, kind.Citation x) all st = absurd (true_not_false (sym st.1))
  any_step done rest (k, kind.Repo x) all st = none_here k (Some (kind.Repo x)) st.0 tt
  any_step done rest (k, kind.Source x) all st = none_here k (Some (kind.Source x)) st.0 tt
  any_step done rest (k, kind.Person x) all st = none_here k (Some (kind.Person x)) st.0 tt
  any_step done rest (k, kind.Family x) all st = none_here k (Some (kind.Family x)) st.0 tt
  any_step done rest (k, kind.Entry x) all st = none_here k (Some (kind.Entry x)) st.0 tt

  walk : (done rest : List Numbered) → done ++ rest ≡ order m → EachOf (StandsAt0 m) rest
      → paths_behind rs (ps done) (map (node_tree m) rest) ≡ ps (order m)
  walk done [] all st = ap ps (sym (append-nil done) ∙ all)
  walk done (e ∷ rest) all st =
      ap (λ us. paths_behind rs us (map (node_tree m) rest))
      (ap (λ o. ps done ++ o ∷ []) (any_step done rest e all st.0)
      ∙ sym (map-append (path_of m) (keys done) (e.0 ∷ []))
      ∙ ap (map (path_of m)) (sym (map-append (λ (x : Numbered). x.0) done (e ∷ []))))
      ∙ walk (done ++ e ∷ []) rest (append_assoc done (e ∷ []) rest ∙ all) st.1

  pub all_paths : paths rs ≡ ps (order m)
  unfolding paths
  all_paths = ap (paths_behind rs []) (nodes_are m) ∙ walk [] (order m) refl (order_stands m)

  pub paths_back : (n : ℕ) → (known rs).path (pos m n) ≡ (known_of m).path n
  paths_back n =
      (λ i. unwrap_or (slice_get (all_paths i) (positions_are m n i)) None)
      ∙ ap (λ o. unwrap_or o None) (at_all (path_of m) n (keys (order m)))
      ∙ by (has n (keys (order m)))
      ∙ path_if m n (has n (keys (order m))) true (λ p g. order_has m n (kind.Place p) g refl)
    where
      by : (b : Bool) → unwrap_or (cond b (Some (path_of m n)) None) None ≡ cond b (path_of m n) None
      by true = refl
      by false = refl

  pub known_again : IsKnownAgain c
  known_again = record { tags = tags_back m; paths = paths_back }
