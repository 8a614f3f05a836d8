-- The number whose position that is, and what is shown of other records where numbers are positions.
use Rattle.std.specs.Prelude.{
  ℕ,
  ◌≡◌,
  ◌<◌,
  ◌==◌,
  Bool,
  true,
  false,
  cond,
  List,
  [],
  ◌∷◌,
  ◌++◌,
  map,
  codes,
  Option,
  Some,
  None,
  option_map,
  bytes_eq,
  refl,
  slice_get,
}
use Rattle.std.specs.List.{flat_map}
use Rattle.std.specs.Option.{unwrap_or}
use Rattle.std.specs.FinMap.{get, entries}
use Rattle.std.proofs.Common.{ap, sym, ◌∙◌, subst, arith, eqb}
use Rattle.std.proofs.lemmas.Bool.{eqb-true}
use Rattle.std.proofs.lemmas.Option.{slice_get-map}
use Rattle.stored_lines.specs.Line.{Lines}
use Rattle.record_kinds.specs.Model as model
use Rattle.record_kinds.specs.declared.record.Record.{Record}
use Rattle.record_kinds.specs.declared.record.Record.TheVariants as kind
use Rattle.archive_state.specs.Links.{at_level_0, carried_links, child_links, partner_links}
use Rattle.record_shapes.specs.Forms.{tag_of}
use Rattle.record_shapes.specs.Laws.{FindsPath}
use Rattle.record_shapes.specs.Lists.{EachOf}
use Rattle.record_shapes.specs.Readable.{IsKnown}
use Rattle.record_shapes.specs.Shapes.{Around, Side}
use Rattle.archive_state.specs.Content.{Content, Records}
use Rattle.archive_state.specs.Known.{known_of, path_of}
use Rattle.archive_state.specs.Known as archive
use Rattle.archive_state.specs.Sound.{IsNumber, IsSound}
use Rattle.archive_state.specs.Sound as sound
use Rattle.import_definitions.specs.Positions.{known, tag_at}
use Rattle.gedcom_export.specs.Around.{around, child_sides, partner_sides}
use Rattle.gedcom_export.specs.Order.{Numbered}
use Rattle.round_trip.specs.OrderLaws.{IsAroundWith, side_with}
use Rattle.round_trip.specs.Positions.{nodes_by_position}
use Rattle.round_trip.proofs.Positions.{number_at}
use Rattle.round_trip.proofs.Entries.{entries_stand, keys, Stands}
use Rattle.round_trip.proofs.Ordered.{order, order_has, order_once}
use Rattle.round_trip.proofs.Nodes.{node_tree, nodes_are, pos, positions_are}
use Rattle.round_trip.proofs.Found.{wanted_has}
use Rattle.round_trip.proofs.Paths.{all_paths, paths_back}
use Rattle.round_trip.proofs.Placed.{IsNoPlace, path_of_none}
use Rattle.round_trip.proofs.Readable.{ReadsSound, filter_none}
use Rattle.round_trip.proofs.Seen.{position_back, positions_apart, tags_back}
use Rattle.round_trip.proofs.Persons.{PersonAt, children_stand, partners_stand}
use Rattle.record_shapes.proofs.Each.{each_back, each_front, each_more, has}
use Rattle.list_laws.proofs.Booleans.{true_not_false}

pub flat_none : {A B : Type 0} (g : A → List B) (xs : List A) → EachOf (λ x. g x ≡ []) xs → flat_map g xs ≡ []
flat_none g [] h = refl
flat_none g (x ∷ xs) h = λ i. h.0 i ++ flat_none g xs h.1 i

-- a person's position is no other's
pub persons_apart : (m : Records) (n : ℕ) → IsKnown (codes "INDI") (known_of m) n → (i : ℕ) → pos m i ≡ pos m n → i ≡ n
persons_apart m n h i e = by (get m n) refl h
  where
    by : (o : Option Record) → get m n ≡ o → bytes_eq (archive.tag_at o) (codes "INDI") ≡ true → i ≡ n
    by (Some (kind.Person x)) g t = positions_apart m n (kind.Person x) g refl i e
    by (Some (kind.Other x)) g t = positions_apart m n (kind.Other x) g refl i e
    by None g t = absurd (true_not_false (sym t))
    by (Some _) g t = absurd (true_not_false (sym t))

module _ (c : Content) (is : IsSound c) (reads : ReadsSound) (finds : FindsPath) where
  abbrev m : Records
  m = c.records

  abbrev rs : Lines
  rs = nodes_by_position m

  abbrev ks : List ℕ
  ks = keys (order m)

  -- ---- numbers of positions
  abbrev pub number_of_position : ℕ → ℕ
  number_of_position k = unwrap_or (slice_get ks k) 0

  at_position : (n : ℕ) → slice_get ks (pos m n) ≡ cond (has n ks) (Some n) None
  at_position n = ap (slice_get ks) (positions_are m n) ∙ number_at n ks

  pub number_back : (n : ℕ) → sound.Stands m (n, at_level_0) → number_of_position (pos m n) ≡ n
  number_back n h = ap (λ o. unwrap_or o 0) (at_position n ∙ ap (λ b. cond b (Some n) None) (wanted_has c is n h))

  none_at_0 : get m 0 ≡ None
  none_at_0 = by (get m 0) refl
    where
      by : (o : Option Record) → get m 0 ≡ o → o ≡ None
      by None g = refl
      by (Some r) g = let n : IsNumber c.next 0 = is.rules.numbered 0 r g in let l : 0 < 0 = n.0 in absurd (omega arith)

  pub number_tags : (k : ℕ) → (known_of m).tag (number_of_position k) ≡ (known rs).tag k
  number_tags k = by (slice_get ks k) refl
    where
      by : (o : Option ℕ) → slice_get ks k ≡ o → archive.tag_at (get m (unwrap_or (slice_get ks k) 0)) ≡ tag_at rs k
      by (Some n) g = ap (λ o. archive.tag_at (get m (unwrap_or o 0))) g ∙ sym (tags_back m n)
          ∙ ap (tag_at rs) (positions_are m n ∙ position_back k n ks (order_once m) g)
      by None g = ap (λ o. archive.tag_at (get m (unwrap_or o 0))) g ∙ ap archive.tag_at none_at_0
          ∙ sym (ap (λ o. unwrap_or (option_map tag_of o) [])
          (ap (λ ts. slice_get ts k) (nodes_are m) ∙ slice_get-map (node_tree m) (order m) k
          ∙ ap (option_map (node_tree m))
          (nothing (slice_get (order m) k) (sym (slice_get-map (λ (e : Numbered). e.0) (order m) k) ∙ g))))
        where
          nothing : (o : Option Numbered) → option_map (λ (e : Numbered). e.0) o ≡ None → o ≡ None
          nothing None e = refl
          nothing (Some x) e = absurd cc

  pub number_paths : (k : ℕ) → (known_of m).path (number_of_position k) ≡ (known rs).path k
  number_paths k = by (slice_get ks k) refl
    where
      by : (o : Option ℕ) → slice_get ks k ≡ o → path_of m (unwrap_or (slice_get ks k) 0) ≡ (known rs).path k
      by (Some n) g = ap (λ o. path_of m (unwrap_or o 0)) g ∙ sym (paths_back c is reads finds n)
          ∙ ap (known rs).path (positions_are m n ∙ position_back k n ks (order_once m) g)
      by None g = ap (λ o. path_of m (unwrap_or o 0)) g ∙ path_of_none m 0 (subst (IsNoPlace m) (sym none_at_0) tt)
          ∙ sym (ap (λ ps. unwrap_or (slice_get ps k) None) (all_paths c is reads finds)
          ∙ ap (λ o. unwrap_or o None) (slice_get-map (path_of m) ks k ∙ ap (option_map (path_of m)) g))

  -- ---- what is shown of other records
  abbrev pub moved : Around
  moved = record {
    path = λ k. unwrap_or ((known rs).path k) [];
    child_in = λ k. unwrap_or (option_map (λ n. map (side_with (pos m)) ((around m).child_in n)) (slice_get ks k)) [];
    partner_in = λ k. unwrap_or (option_map (λ n. map (side_with (pos m)) ((around m).partner_in n)) (slice_get ks k))
        [];
  }

  -- a number that no record of level 0 has is that of no person
  module _ (n : ℕ) (out : has n ks ≡ false) where
    not_person : (k : ℕ) → PersonAt m k → (k == n) ≡ false
    not_person k h = by (eqb k n) refl
      where
        by : (b : Bool) → eqb k n ≡ b → b ≡ false
        by false e = refl
        by true e = absurd (true_not_false
            (sym (order_has m n (kind.Person h.0) (ap (get m) (sym (eqb-true k n e)) ∙ h.1) refl) ∙ out))

    child_out : (e : Numbered) → Stands m e → child_sides n e ≡ []
    child_out (k, kind.Family x) h =
        let named : EachOf (sound.Stands m) (flat_map child_links x.children) =
        each_front (sound.Stands m) (flat_map child_links x.children) (carried_links x.carried)
        (each_back (sound.Stands m) (flat_map partner_links x.partners)
        (flat_map child_links x.children ++ carried_links x.carried) (is.named k (kind.Family x) h)) in
        ap (map (λ (y : model.Child). (let t : Side = record { family = k; carried = y.carried_by_person } in t)))
        (filter_none (λ (y : model.Child). y.person == n) x.children
        (each_more (λ (y : model.Child). PersonAt m y.person) (λ y. (y.person == n) ≡ false)
        (λ y w. not_person y.person w) x.children (children_stand m x.children named)))
    child_out (k, _) h = refl

    partner_out : (e : Numbered) → Stands m e → partner_sides n e ≡ []
    partner_out (k, kind.Family x) h =
        let named : EachOf (sound.Stands m) (flat_map partner_links x.partners) =
        each_front (sound.Stands m) (flat_map partner_links x.partners)
        (flat_map child_links x.children ++ carried_links x.carried) (is.named k (kind.Family x) h) in
        ap (map (λ (y : model.Partner). (let t : Side = record { family = k; carried = y.carried_by_person } in t)))
        (filter_none (λ (y : model.Partner). y.person == n) x.partners
        (each_more (λ (y : model.Partner). PersonAt m y.person) (λ y. (y.person == n) ≡ false)
        (λ y w. not_person y.person w) x.partners (partners_stand m x.partners named)))
    partner_out (k, _) h = refl

    children_out : (around m).child_in n ≡ []
    children_out = flat_none (child_sides n) (entries m)
        (each_more (Stands m) (λ e. child_sides n e ≡ []) child_out (entries m) (entries_stand m))

    partners_out : (around m).partner_in n ≡ []
    partners_out = flat_none (partner_sides n) (entries m)
        (each_more (Stands m) (λ e. partner_sides n e ≡ []) partner_out (entries m) (entries_stand m))

  moved_by : {A : Type 0} (h : ℕ → List A) (n : ℕ) → (has n ks ≡ false → h n ≡ [])
      → unwrap_or (option_map h (slice_get ks (pos m n))) [] ≡ h n
  moved_by h n out = ap (λ o. unwrap_or (option_map h o) []) (at_position n) ∙ by (has n ks) refl
    where
      by : (b : Bool) → has n ks ≡ b → unwrap_or (option_map h (cond b (Some n) None)) [] ≡ h n
      by true e = refl
      by false e = sym (out e)

  pub moved_is : IsAroundWith (pos m) (around m) moved
  moved_is = record {
    paths = λ n. ap (λ o. unwrap_or o []) (paths_back c is reads finds n);
    child_in = λ n. moved_by (λ k. map (side_with (pos m)) ((around m).child_in k)) n
        (λ o. ap (map (side_with (pos m))) (children_out n o));
    partner_in = λ n. moved_by (λ k. map (side_with (pos m)) ((around m).partner_in k)) n
        (λ o. ap (map (side_with (pos m))) (partners_out n o));
  }
