-- The nodes of an export are read as the records, with positions for numbers and without owners.
use Rattle.std.specs.Prelude.{ℕ, ◌≡◌, ◌+◌, List, [], ◌∷◌, ◌++◌, map, length, take, Option, Some, None, refl}
use Rattle.std.specs.FinMap.{get, entries}
use Rattle.std.proofs.Common.{ap, sym, ◌∙◌, append_assoc, length-append, subst, arith}
use Rattle.std.proofs.lemmas.Bool.Decides.{nat_tests}
use Rattle.std.proofs.lemmas.List.{length-map, map-append}
use Rattle.std.proofs.Math.Seq.{take-append_seam}
use Rattle.std.proofs.lemmas.Simd.{map-map}
use Rattle.stored_lines.specs.Tree.{Tree, node, forest_of, label, relabel, relabel_all}
use Rattle.stored_lines.specs.Line.{Lines}
use Rattle.record_kinds.specs.Model as model
use Rattle.record_kinds.specs.declared.record.Record.{Record}
use Rattle.record_kinds.specs.declared.record.Record.TheVariants as kind
use Rattle.archive_state.specs.Links.{carried_links, value_links}
use Rattle.record_shapes.specs.Forms.{Known, below}
use Rattle.record_shapes.specs.Laws.{FindsFamilies, FindsPath, IsReadAgain, apart, drafted}
use Rattle.record_shapes.specs.Lists.{EachOf, IsOnce}
use Rattle.record_shapes.specs.Readable.{IsReadable, IsReadableOther}
use Rattle.record_shapes.specs.Reading.{Draft, draft_of, family_from, read}
use Rattle.record_shapes.specs.Shapes.{Around}
use Rattle.archive_state.specs.Content.{Content, Records}
use Rattle.archive_state.specs.Known.{known_before, known_of, path_of}
use Rattle.archive_state.specs.Merging.{family_with, other_with, record_with}
use Rattle.archive_state.specs.Sound.{IsSound}
use Rattle.archive_state.specs.Sound as sound
use Rattle.import_definitions.specs.Positions.{known, known_by, paths}
use Rattle.import_definitions.specs.Sides.{draft_at, drafts_from, root_with_sides, with_sides}
use Rattle.gedcom_export.specs.Around.{around}
use Rattle.gedcom_export.specs.Order.{Numbered, citations_of, events_of, household, households, rank}
use Rattle.round_trip.specs.Positions.{nodes_by_position, position_of}
use Rattle.round_trip.proofs.Listed.{has_first, once_not_front}
use Rattle.round_trip.proofs.Positions.{position_behind}
use Rattle.round_trip.proofs.Entries.{keys, Stands}
use Rattle.round_trip.proofs.Ordered.{order, order_once, order_stands, StandsAt0}
use Rattle.round_trip.proofs.Nodes.{house, node_tree, nodes_are, pos, positions_are}
use Rattle.round_trip.proofs.Renamed.{renamed}
use Rattle.round_trip.specs.Drafts.{drafts, without_owner}
use Rattle.round_trip.specs.ReadingLaws.{DraftsComeBack, apart_family}
use Rattle.round_trip.proofs.Inverse.{
  moved,
  moved_is,
  number_back,
  number_of_position,
  number_paths,
  number_tags,
  persons_apart,
}
use Rattle.round_trip.proofs.Others.{other_alike}
use Rattle.round_trip.proofs.Paths.{all_paths, paths_back}
use Rattle.round_trip.proofs.Placed.{path_before}
use Rattle.round_trip.proofs.Readable.{ReadsSound, Shaped, shaped}
use Rattle.round_trip.proofs.Relabelled.{IsBelow, below_same, relabel_all_twice}
use Rattle.round_trip.proofs.Reshaped.{reshaped}
use Rattle.round_trip.proofs.Seen.{tags_back}
use Rattle.round_trip.proofs.Sides.{family_back}
use Rattle.record_shapes.proofs.Each.{each_back}
use Rattle.list_laws.proofs.Booleans.{true_not_false}

-- what the laws of the crates below say
pub record Laws : Type 0 where
  pub reads : ReadsSound
  pub again : IsReadAgain
  pub paths : FindsPath
  pub families : FindsFamilies

module _ (c : Content) (is : IsSound c) (laws : Laws) where
  abbrev m : Records
  m = c.records

  abbrev rs : Lines
  rs = nodes_by_position m

  abbrev back : (n : ℕ) → (known rs).path (pos m n) ≡ (known_of m).path n
  back = paths_back c is laws.reads laws.paths

  abbrev shown : Around
  shown = moved c is laws.reads laws.paths

  -- ---- a record with positions for numbers can be read again from its lines
  other_moved : (n : ℕ) (o : model.Other) → get m n ≡ Some (kind.Other o) → IsReadableOther (known_of m) o
      → IsReadableOther (known rs) (other_with (pos m) o)
  other_moved n o here h = other_alike m (pos m) (number_of_position c is laws.reads laws.paths)
      (number_back c is laws.reads laws.paths) (known_of m) (known rs)
      (number_tags c is laws.reads laws.paths) (number_paths c is laws.reads laws.paths) o
      (each_back (sound.Stands m) (value_links o.value) (carried_links o.carried) (is.named n (kind.Other o) here)) h

  abbrev house_moved : Numbered → Tree Record
  house_moved e = relabel (record_with (pos m)) (house m e)

  moved_with : (earlier earlier' : Known) → ((j : ℕ) → earlier'.path (pos m j) ≡ earlier.path j) → (e : Numbered)
      → Stands m e
      → IsReadable earlier (known_of m) (around m) e.0 (house m e)
      → IsReadable earlier' (known rs) shown (pos m e.0) (house_moved e)
  moved_with earlier earlier' up e st h =
      reshaped (pos m) (known_of m) (known rs) (tags_back m) back (around m) shown (moved_is c is laws.reads laws.paths)
      (persons_apart m) earlier earlier' up e.0 e.1
      (relabel_all (λ (x : Numbered). x.1) (forest_of (events_of (entries m) e.0 ++ citations_of (entries m) e.0)))
      (λ (o : model.Other) (k : e.1 ≡ kind.Other o) (w : IsReadableOther (known_of m) o).
      other_moved e.0 o (st ∙ ap (λ r. let z : Option Record = Some r in z) k) w) h

  abbrev Up : Known → Numbered → Type 0
  Up earlier' e = rank e.1 ≡ 1 → (j : ℕ) → earlier'.path (pos m j) ≡ (known_before m e.0).path j

  any_moved : (earlier' : Known) (e : Numbered) → Up earlier' e → StandsAt0 m e → Shaped c is e
      → IsReadable earlier' (known rs) shown (pos m e.0) (house_moved e)
  any_moved earlier' (k, kind.Place x) up st h = moved_with (known_before m k) earlier' (up refl) (k, kind.Place x) st.0
      h
  any_moved earlier' (k, kind.Repo x) up st h = moved_with (known_of m) (known rs) back (k, kind.Repo x) st.0 h
  any_moved earlier' (k, kind.Source x) up st h = moved_with (known_of m) (known rs) back (k, kind.Source x) st.0 h
  any_moved earlier' (k, kind.Person x) up st h = moved_with (known_of m) (known rs) back (k, kind.Person x) st.0 h
  any_moved earlier' (k, kind.Family x) up st h = moved_with (known_of m) (known rs) back (k, kind.Family x) st.0 h
  any_moved earlier' (k, kind.Entry x) up st h = moved_with (known_of m) (known rs) back (k, kind.Entry x) st.0 h
  any_moved earlier' (k, kind.Other x) up st h = moved_with (known_of m) (known rs) back (k, kind.Other x) st.0 h
  any_moved earlier' (k, kind.Event x) up st h = absurd (true_not_false (sym st.1))
  any_moved earlier' (k, kind.Citation x) up st h = absurd (true_not_false (sym st.1))

  -- ---- a family as its own node tells it
  pub family_read : (k : ℕ) (x : model.Family) → get m k ≡ Some (kind.Family x)
      → family_from (known rs) (below (node_tree m (k, kind.Family x))) ≡ apart_family (family_with (pos m) x)
  family_read k x g =
      let e : Numbered = (k, kind.Family x) in
      let readable : IsReadable (known rs) (known rs) shown (pos m k) (house_moved e) =
      any_moved (known rs) e (λ (r : 5 ≡ 1). absurd (omega (arith, r))) (g, refl)
      (shaped c is laws.reads e (g, refl)) in
      let same : read (kind.Family (family_from (known rs) (below (node_tree m e)))) None
      ≡ read (kind.Family (apart_family (family_with (pos m) x))) None =
      ap (λ t. label (draft_of (known rs) (known rs) t))
      (renamed (pos m) (around m) shown k (house m e) (moved_is c is laws.reads laws.paths))
      ∙ ap label (laws.again (known rs) (known rs) shown (pos m k) (house_moved e) readable) in
      cc

  -- ---- with the sides of memberships
  abbrev read_apart : Numbered → Draft
  read_apart x = read (apart (record_with (pos m) x.1)) None

  abbrev whole : Numbered → Draft
  whole x = read (without_owner (record_with (pos m) x.1)) None

  below_whole : (x : Numbered) → IsBelow x → read_apart x ≡ whole x
  below_whole (k, kind.Event x) h = refl
  below_whole (k, kind.Citation x) h = refl
  below_whole (k, kind.Place x) h = refl
  below_whole (k, kind.Repo x) h = refl
  below_whole (k, kind.Source x) h = refl
  below_whole (k, kind.Person x) h = refl
  below_whole (k, kind.Entry x) h = refl
  below_whole (k, kind.Other x) h = refl
  below_whole (k, kind.Family x) h = absurd (omega (arith, h))

  root_whole : (i : ℕ) (x : Numbered) → Stands m x → i ≡ pos m x.0 → with_sides rs i (read_apart x) ≡ whole x
  root_whole i (k, kind.Family x) st e =
      ap (λ j. with_sides rs j (read_apart (k, kind.Family x))) e
      ∙ ap (λ y. read (kind.Family y) None) (family_back c is laws.reads laws.families k x st)
  root_whole i (k, kind.Event x) st e = refl
  root_whole i (k, kind.Citation x) st e = refl
  root_whole i (k, kind.Place x) st e = refl
  root_whole i (k, kind.Repo x) st e = refl
  root_whole i (k, kind.Source x) st e = refl
  root_whole i (k, kind.Person x) st e = refl
  root_whole i (k, kind.Entry x) st e = refl
  root_whole i (k, kind.Other x) st e = refl

  household_whole : (i : ℕ) (e : Numbered) → Stands m e → i ≡ pos m e.0
      → root_with_sides rs i (drafted (house_moved e)) ≡ relabel whole (household (entries m) e)
  household_whole i e st at_ =
      let f = forest_of (events_of (entries m) e.0 ++ citations_of (entries m) e.0) in
      λ z. node (root_whole i e st at_ z)
      ((ap (relabel_all (λ (r : Record). read (apart r) None))
      (relabel_all_twice (record_with (pos m)) (λ (x : Numbered). x.1) f)
      ∙ relabel_all_twice (λ (r : Record). read (apart r) None) (λ (x : Numbered). record_with (pos m) x.1) f
      ∙ below_same read_apart whole below_whole (entries m) e.0) z)

  -- ---- along all
  abbrev ps : List Numbered → List (Option (List ℕ))
  ps es = map (path_of m) (keys es)

  paths_before : (done rest : List Numbered) → done ++ rest ≡ order m → take (length done) (paths rs) ≡ ps done
  paths_before done rest all =
      let longs : length done
      ≡ length (ps done) = sym (length-map (keys done) (path_of m) ∙ length-map done (λ (x : Numbered). x.0)) in
      ap (take (length done)) (all_paths c is laws.reads laws.paths ∙ ap ps (sym all)
      ∙ ap (map (path_of m)) (map-append (λ (x : Numbered). x.0) done rest)
      ∙ map-append (path_of m) (keys done) (keys rest))
      ∙ ap (λ n. take n (ps done ++ ps rest)) longs ∙ take-append_seam (ps done) (ps rest)

  pub position_here : (done rest : List Numbered) (e : Numbered) → done ++ e ∷ rest ≡ order m → length done ≡ pos m e.0
  position_here done rest e all =
      let keys_are : keys done ++ e.0 ∷ keys rest ≡ keys (order m) =
      sym (map-append (λ (x : Numbered). x.0) done (e ∷ rest)) ∙ ap keys all in
      let once : IsOnce (keys done ++ e.0 ∷ keys rest) = subst IsOnce (sym keys_are) (order_once m) in
      let behind : position_of e.0 (keys done ++ e.0 ∷ keys rest)
      ≡ length (keys done) + position_of e.0 (e.0 ∷ keys rest) =
      position_behind e.0 (keys done) (e.0 ∷ keys rest)
      (once_not_front e.0 (keys done) (e.0 ∷ keys rest) once (has_first e.0 (keys rest))) in
      let first : position_of e.0 (e.0 ∷ keys rest) ≡ 0 = grind (arith, nat_tests) in
      let longs : length (keys done) ≡ length done = length-map done (λ (x : Numbered). x.0) in
      (let n : length done ≡ position_of e.0 (keys done ++ e.0 ∷ keys rest) = omega arith in n)
      ∙ ap (position_of e.0) keys_are ∙ sym (positions_are m e.0)

  up_here : (done rest : List Numbered) (e : Numbered) → done ++ e ∷ rest ≡ order m → StandsAt0 m e
      → Up (known_by rs (ps done)) e
  up_here done rest (k, kind.Place p) all st r j =
      path_before m (keys done) (keys rest) k p
      (sym (map-append (λ (x : Numbered). x.0) done ((k, kind.Place p) ∷ rest)) ∙ ap keys all) st.0 j
  up_here done rest (k, kind.Repo p) all st r j = absurd (omega (arith, r))
  up_here done rest (k, kind.Source p) all st r j = absurd (omega (arith, r))
  up_here done rest (k, kind.Person p) all st r j = absurd (omega (arith, r))
  up_here done rest (k, kind.Family p) all st r j = absurd (omega (arith, r))
  up_here done rest (k, kind.Entry p) all st r j = absurd (omega (arith, r))
  up_here done rest (k, kind.Other p) all st r j = absurd (omega (arith, r))
  up_here done rest (k, kind.Event p) all st r j = absurd (omega (arith, r))
  up_here done rest (k, kind.Citation p) all st r j = absurd (omega (arith, r))

  draft_back : (done rest : List Numbered) (e : Numbered) → done ++ e ∷ rest ≡ order m → StandsAt0 m e
      → draft_at rs (length done) (node_tree m e) ≡ relabel whole (household (entries m) e)
  draft_back done rest e all st =
      let earlier' : Known = known_by rs (ps done) in
      let readable : IsReadable earlier' (known rs) shown (pos m e.0) (house_moved e) =
      any_moved earlier' e (up_here done rest e all st) st (shaped c is laws.reads e st) in
      let i = length done in
      ap (λ us. root_with_sides rs i (draft_of (known_by rs us) (known rs) (node_tree m e)))
      (paths_before done (e ∷ rest) all)
      ∙ ap (λ t. root_with_sides rs i (draft_of earlier' (known rs) t))
      (renamed (pos m) (around m) shown e.0 (house m e) (moved_is c is laws.reads laws.paths))
      ∙ ap (root_with_sides rs i) (laws.again earlier' (known rs) shown (pos m e.0) (house_moved e) readable)
      ∙ household_whole i e st.0 (position_here done rest e all)

  drafts_walk : (i : ℕ) (done rest : List Numbered) → done ++ rest ≡ order m → i ≡ length done
      → EachOf (StandsAt0 m) rest
      → drafts_from rs i (map (node_tree m) rest) ≡ map (λ (e : Numbered). relabel whole (household (entries m) e)) rest
  drafts_walk i done [] all l st = refl
  drafts_walk i done (e ∷ rest) all l st =
      let longer : length (done ++ e ∷ []) ≡ length done + 1 = length-append done (e ∷ []) in
      let next : i + 1 ≡ length (done ++ e ∷ []) = omega arith in
      λ z. (ap (λ k. draft_at rs k (node_tree m e)) l ∙ draft_back done rest e all st.0) z
      ∷ drafts_walk (i + 1) (done ++ e ∷ []) rest (append_assoc done (e ∷ []) rest ∙ all) next st.1 z

  pub drafts_back : drafts rs ≡ map (relabel whole) (households m)
  drafts_back = ap (drafts_from rs 0) (nodes_are m) ∙ drafts_walk 0 [] (order m) refl refl (order_stands m)
      ∙ sym (map-map (relabel whole) (household (entries m)) (order m))

pub drafts_come_back : Laws → DraftsComeBack
drafts_come_back laws c is = drafts_back c is laws
