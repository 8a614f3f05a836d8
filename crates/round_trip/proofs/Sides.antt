-- Both sides of each membership come back.
use Rattle.std.specs.Prelude.{
  ℕ,
  ◌≡◌,
  ◌==◌,
  ◌&&◌,
  not,
  Bool,
  true,
  false,
  List,
  [],
  ◌∷◌,
  ◌++◌,
  map,
  length,
  codes,
  Option,
  Some,
  None,
  option_map,
  bytes_eq,
  refl,
  slice_get,
}
use Rattle.std.specs.List.{filter, list_any, flat_map}
use Rattle.std.specs.Option.{unwrap_or}
use Rattle.std.specs.FinMap.{get, entries}
use Rattle.std.proofs.Common.{ap, sym, ◌∙◌, append-nil}
use Rattle.std.proofs.lemmas.List.{map-append}
use Rattle.std.proofs.lemmas.List.Elements.{filter-append}
use Rattle.std.proofs.lemmas.List.Folds.{list_any-append}
use Rattle.std.proofs.lemmas.Option.{slice_get-map}
use Rattle.std.proofs.lemmas.Simd.{map-map}
use Rattle.stored_lines.specs.Tree.{Tree, forest_of, relabel}
use Rattle.stored_lines.specs.Line.{Line, Lines}
use Rattle.stored_lines.proofs.Back.{list_of_forest_of}
use Rattle.record_kinds.specs.Model as model
use Rattle.record_kinds.specs.declared.record.Record.TheVariants as kind
use Rattle.archive_state.specs.Links.{carried_links, child_links, partner_links}
use Rattle.record_shapes.specs.Entries.{below_on}
use Rattle.record_shapes.specs.Fields.{a_side, is_same, person_field}
use Rattle.record_shapes.specs.Forms.{below, is_some, tag_of}
use Rattle.record_shapes.specs.Laws.{FindsFamilies, apart_child, apart_partner}
use Rattle.record_shapes.specs.Lists.{EachOf, IsOnce}
use Rattle.record_shapes.specs.Members.{members}
use Rattle.record_shapes.specs.Picking.{all_of, first}
use Rattle.record_shapes.specs.Shapes.{Side, person_lines}
use Rattle.record_shapes.specs.Shapes as shapes
use Rattle.archive_state.specs.Content.{Content, Records}
use Rattle.archive_state.specs.Known.{known_of}
use Rattle.archive_state.specs.Merging.{child_with, family_with, line_with, lines_with, partner_with}
use Rattle.archive_state.specs.Sound.{IsSound}
use Rattle.archive_state.specs.Sound as sound
use Rattle.import_definitions.specs.Positions.{known, positions, tag_at}
use Rattle.import_definitions.specs.Sides.{
  child_with_side,
  family_with_sides,
  late,
  late_child,
  lines_at,
  names_family,
  names_parents,
  partner_with_side,
  side_line,
  side_of,
}
use Rattle.gedcom_export.specs.Around.{around, child_sides, partner_sides}
use Rattle.gedcom_export.specs.Order.{Numbered}
use Rattle.round_trip.specs.OrderLaws.{side_with}
use Rattle.round_trip.specs.Positions.{nodes_by_position}
use Rattle.round_trip.proofs.Listed.{filter_under, map_each}
use Rattle.round_trip.proofs.Entries.{entries_have, entries_once, entries_stand, keys, Stands}
use Rattle.round_trip.proofs.Ordered.{order, order_once, order_stands, StandsAt0}
use Rattle.round_trip.proofs.Nodes.{node_tree, nodes_are, owns, pos, positions_are}
use Rattle.round_trip.proofs.Renamed.{list_relabelled, sides}
use Rattle.round_trip.specs.ReadingLaws.{SidesComeBack, apart_family}
use Rattle.round_trip.proofs.Persons.{PersonAt, children_stand, partners_stand}
use Rattle.round_trip.proofs.Alike.{all_alike, person_alike}
use Rattle.round_trip.proofs.Readable.{ReadsSound, filter_none, shaped}
use Rattle.round_trip.proofs.Seen.{at_node, each_at, if_level_0, position_back, positions_apart, tags_back}
use Rattle.round_trip.proofs.SideLists.{
  child_sides_of,
  filter_and,
  first_has,
  first_map,
  first_own,
  has_map,
  is_some_map,
  is_wanted_side,
  once_parts,
  partner_sides_of,
  pick_other,
  pick_own,
  sides_one,
}
use Rattle.record_shapes.proofs.Each.{each_all, each_more, each_zip, each_parts, has}
use Rattle.list_laws.proofs.Booleans.{neither, or_right, true_not_false}

module _ (c : Content) (is : IsSound c) (reads : ReadsSound) (finds : FindsFamilies) where
  abbrev m : Records
  m = c.records

  abbrev rs : Lines
  rs = nodes_by_position m

  -- ---- the lines of a person
  lines_are : (k : ℕ) (p : model.Person) → get m k ≡ Some (kind.Person p)
      → lines_at rs (pos m k) ≡ lines_with (pos m) (person_lines (around m) k p (owns m k))
  lines_are k p g = ap below_on (at_node m k ∙ ap (λ o. option_map (node_tree m) (if_level_0 m k o)) g)
      ∙ list_relabelled (line_with (pos m)) (forest_of (person_lines (around m) k p (owns m k)))
      ∙ ap (lines_with (pos m)) (list_of_forest_of (person_lines (around m) k p (owns m k)))

  abbrev child_lines : ℕ → Lines
  child_lines k = map (shapes.side_line (codes "FAMC")) (map (side_with (pos m)) (flat_map (child_sides k) (entries m)))

  abbrev partner_lines : ℕ → Lines
  partner_lines k = map (shapes.side_line (codes "FAMS"))
      (map (side_with (pos m)) (flat_map (partner_sides k) (entries m)))

  -- those that name families
  pub side_lines : (k : ℕ) (p : model.Person) → get m k ≡ Some (kind.Person p)
      → all_of (person_field (known rs)) a_side (lines_at rs (pos m k)) ≡ child_lines k ++ partner_lines k
  side_lines k p g =
      let a = around m in
      ap (all_of (person_field (known rs)) a_side) (lines_are k p g)
      ∙ all_alike (pos m) (person_field (known_of m)) (person_field (known rs)) a_side (person_lines a k p (owns m k))
      (person_alike (pos m) (known_of m) (known rs) (tags_back m))
      ∙ ap (lines_with (pos m)) (finds (known_of m) a k p (owns m k) (shaped c is reads (k, kind.Person p) (g, refl)))
      ∙ map-append (relabel (line_with (pos m))) (map (shapes.side_line (codes "FAMC")) (a.child_in k))
      (map (shapes.side_line (codes "FAMS")) (a.partner_in k))
      ∙ (λ i. sides (pos m) (codes "FAMC") (a.child_in k) i ++ sides (pos m) (codes "FAMS") (a.partner_in k) i)

  module _ (n : ℕ) (x : model.Family) (here : get m n ≡ Some (kind.Family x)) where
    by_number : EachOf (λ (e : Numbered). e.0 ≡ n → e.1 ≡ kind.Family x) (entries m)
    by_number = each_more (Stands m) (λ e. e.0 ≡ n → e.1 ≡ kind.Family x)
        (λ (e : Numbered) (h : Stands m e) (i : e.0 ≡ n). let two : Some e.1 ≡ Some (kind.Family x) = sym h
        ∙ ap (get m) i ∙ here in let same : e.1 ≡ kind.Family x = cc in same) (entries m) (entries_stand m)

    one : (g : Numbered → List Side) → ((e : Numbered) → EachOf (λ (s : Side). s.family ≡ e.0) (g e))
        → filter (λ (s : Side). s.family == pos m n) (map (side_with (pos m)) (flat_map g (entries m)))
        ≡ map (side_with (pos m)) (g (n, kind.Family x))
    one g of_family =
        filter_under (side_with (pos m)) (λ (s : Side). s.family == pos m n) (λ (s : Side). pos m s.family == pos m n)
        (flat_map g (entries m)) (λ s. refl)
        ∙ ap (map (side_with (pos m)))
        (sides_one (pos m) n (positions_apart m n (kind.Family x) here refl) g of_family (kind.Family x) (entries m)
        by_number (entries_once m) (entries_have m n (kind.Family x) here))

    child_line_of : (k : ℕ) (p : model.Person) → get m k ≡ Some (kind.Person p)
        → filter (names_family (known rs) (codes "FAMC") (pos m n)) (lines_at rs (pos m k))
        ≡ map (shapes.side_line (codes "FAMC")) (map (side_with (pos m)) (child_sides k (n, kind.Family x)))
    child_line_of k p g =
        let cs = map (side_with (pos m)) (flat_map (child_sides k) (entries m)) in
        let ps = map (side_with (pos m)) (flat_map (partner_sides k) (entries m)) in
        let test = is_wanted_side (codes "FAMC") (pos m n) in
        filter_and (λ t. is_same (person_field (known rs) t) a_side) test (lines_at rs (pos m k))
        ∙ ap (filter test) (side_lines k p g)
        ∙ filter-append test (child_lines k) (partner_lines k)
        ∙ (λ i. (pick_own (codes "FAMC") (pos m n) cs refl
        ∙ ap (map (shapes.side_line (codes "FAMC"))) (one (child_sides k) (child_sides_of k))) i
        ++ pick_other (codes "FAMC") (codes "FAMS") (pos m n) ps refl i)
        ∙ append-nil (map (shapes.side_line (codes "FAMC"))
        (map (side_with (pos m)) (child_sides k (n, kind.Family x))))

    partner_line_of : (k : ℕ) (p : model.Person) → get m k ≡ Some (kind.Person p)
        → filter (names_family (known rs) (codes "FAMS") (pos m n)) (lines_at rs (pos m k))
        ≡ map (shapes.side_line (codes "FAMS")) (map (side_with (pos m)) (partner_sides k (n, kind.Family x)))
    partner_line_of k p g =
        let cs = map (side_with (pos m)) (flat_map (child_sides k) (entries m)) in
        let ps = map (side_with (pos m)) (flat_map (partner_sides k) (entries m)) in
        let test = is_wanted_side (codes "FAMS") (pos m n) in
        filter_and (λ t. is_same (person_field (known rs) t) a_side) test (lines_at rs (pos m k))
        ∙ ap (filter test) (side_lines k p g)
        ∙ filter-append test (child_lines k) (partner_lines k)
        ∙ (λ i. pick_other (codes "FAMS") (codes "FAMC") (pos m n) cs refl i
        ++ (pick_own (codes "FAMS") (pos m n) ps refl
        ∙ ap (map (shapes.side_line (codes "FAMS"))) (one (partner_sides k) (partner_sides_of k))) i)

    -- ---- what a person carries
    abbrev child_side : model.Child → Side
    child_side x = record { family = n; carried = x.carried_by_person }

    abbrev partner_side : model.Partner → Side
    partner_side x = record { family = n; carried = x.carried_by_person }

    child_back : (y : model.Child) → PersonAt m y.person
        → first (filter (λ (z : model.Child). z.person == y.person) x.children) ≡ Some y
        → side_of rs (codes "FAMC") (pos m n) (pos m y.person) ≡ lines_with (pos m) y.carried_by_person
    child_back y p f =
        let own = filter (λ (z : model.Child). z.person == y.person) x.children in
        ap (λ ts. below_on (first ts)) (child_line_of y.person p.0 p.1)
        ∙ ap below_on (first_map (shapes.side_line (codes "FAMC")) (map (side_with (pos m)) (map child_side own))
        ∙ ap (option_map (shapes.side_line (codes "FAMC"))) (first_map (side_with (pos m)) (map child_side own)
        ∙ ap (option_map (side_with (pos m))) (first_map child_side own ∙ ap (option_map child_side) f)))
        ∙ list_of_forest_of (lines_with (pos m) y.carried_by_person)

    partner_back : (y : model.Partner) → PersonAt m y.person
        → first (filter (λ (z : model.Partner). z.person == y.person) x.partners) ≡ Some y
        → side_of rs (codes "FAMS") (pos m n) (pos m y.person) ≡ lines_with (pos m) y.carried_by_person
    partner_back y p f =
        let own = filter (λ (z : model.Partner). z.person == y.person) x.partners in
        ap (λ ts. below_on (first ts)) (partner_line_of y.person p.0 p.1)
        ∙ ap below_on (first_map (shapes.side_line (codes "FAMS")) (map (side_with (pos m)) (map partner_side own))
        ∙ ap (option_map (shapes.side_line (codes "FAMS"))) (first_map (side_with (pos m)) (map partner_side own)
        ∙ ap (option_map (side_with (pos m))) (first_map partner_side own ∙ ap (option_map partner_side) f)))
        ∙ list_of_forest_of (lines_with (pos m) y.carried_by_person)

    -- ---- no person but its children names it as that of the parents
    child_named : (k : ℕ) (p : model.Person) → get m k ≡ Some (kind.Person p)
        → is_some (side_line rs (codes "FAMC") (pos m n) (pos m k)) ≡ true
        → has k (map (λ (z : model.Child). z.person) x.children) ≡ true
    child_named k p g said =
        let own = filter (λ (z : model.Child). z.person == k) x.children in
        first_has (λ (z : model.Child). z.person) k x.children
        (sym (ap (λ ts. is_some (first ts)) (child_line_of k p g)
        ∙ ap is_some (first_map (shapes.side_line (codes "FAMC")) (map (side_with (pos m)) (map child_side own)))
        ∙ is_some_map (shapes.side_line (codes "FAMC")) (first (map (side_with (pos m)) (map child_side own)))
        ∙ ap is_some (first_map (side_with (pos m)) (map child_side own))
        ∙ is_some_map (side_with (pos m)) (first (map child_side own))
        ∙ ap is_some (first_map child_side own)
        ∙ is_some_map child_side (first own)) ∙ said)

    abbrev own_node : model.Family
    own_node = apart_family (family_with (pos m) x)

    child_numbers : (cs : List model.Child)
        → map (λ (z : model.Child). z.person) (map apart_child (map (child_with (pos m)) cs))
        ≡ map (pos m) (map (λ (z : model.Child). z.person) cs)
    child_numbers [] = refl
    child_numbers (y ∷ cs) = ap (λ ks. pos m y.person ∷ ks) (child_numbers cs)

    is_member : (k : ℕ) → has k (map (λ (z : model.Child). z.person) x.children) ≡ true
        → has (pos m k) (members own_node) ≡ true
    is_member k h =
        let ps = map (λ (z : model.Partner). z.person) own_node.partners in
        let cs = map (λ (z : model.Child). z.person) own_node.children in
        list_any-append (λ q. q == pos m k) ps cs
        ∙ or_right (has (pos m k) ps) (has (pos m k) cs) (ap (has (pos m k)) (child_numbers x.children)
        ∙ has_map (pos m) k (map (λ (z : model.Child). z.person) x.children) h)

    abbrev is_late : ℕ → Bool
    is_late j = names_parents rs (pos m n) j && not (list_any (λ i. i == j) (members own_node))

    -- at a position
    abbrev names_at : Option (Tree Line) → Bool
    names_at o = bytes_eq (unwrap_or (option_map tag_of o) []) (codes "INDI")
        && is_some (first (filter (names_family (known rs) (codes "FAMC") (pos m n)) (below_on o)))

    not_other : (k : ℕ) (o : model.Other) → get m k ≡ Some (kind.Other o) → bytes_eq o.tag (codes "INDI") ≡ false
    not_other k o g =
        let a1 = neither (bytes_eq o.tag (codes "_LOC"))
        (list_any (bytes_eq o.tag) (codes "REPO" ∷ codes "SOUR" ∷ codes "INDI" ∷ codes "FAM" ∷ []))
        (is.rules.shapes k (kind.Other o) g).own in
        let a2 = neither (bytes_eq o.tag (codes "REPO"))
        (list_any (bytes_eq o.tag) (codes "SOUR" ∷ codes "INDI" ∷ codes "FAM" ∷ [])) a1.1 in
        let a3 = neither (bytes_eq o.tag (codes "SOUR")) (list_any (bytes_eq o.tag) (codes "INDI" ∷ codes "FAM" ∷ []))
        a2.1 in
        (neither (bytes_eq o.tag (codes "INDI")) (list_any (bytes_eq o.tag) (codes "FAM" ∷ [])) a3.1).0

    not_late : (j : ℕ) (e : Numbered) → StandsAt0 m e → slice_get rs j ≡ Some (node_tree m e) → pos m e.0 ≡ j
        → is_late j ≡ false
    not_late j (k, kind.Person p) st at_ same = by (is_some (side_line rs (codes "FAMC") (pos m n) j)) refl
      where
        by : (b : Bool) → is_some (side_line rs (codes "FAMC") (pos m n) j) ≡ b → is_late j ≡ false
        by false e = (λ i. (bytes_eq (tag_at rs j) (codes "INDI") && e i) && not (has j (members own_node)))
            ∙ false_both (bytes_eq (tag_at rs j) (codes "INDI")) (not (has j (members own_node)))
          where
            false_both : (a b : Bool) → ((a && false) && b) ≡ false
            false_both true b = refl
            false_both false b = refl
        by true e =
            let is_in : has j (members own_node) ≡ true = ap (λ i. has i (members own_node)) (sym same)
            ∙ is_member k (child_named k p st.0 (ap (λ i. is_some (side_line rs (codes "FAMC") (pos m n) i)) same
            ∙ e)) in
            (λ i. names_parents rs (pos m n) j && not (is_in i)) ∙ false_last (names_parents rs (pos m n) j)
          where
            false_last : (a : Bool) → (a && false) ≡ false
            false_last true = refl
            false_last false = refl
    not_late j (k, kind.Other o) st at_ same = ap (λ s. names_at s && not (has j (members own_node))) at_
        ∙ ap (λ b. (b && is_some
        (first (filter (names_family (known rs) (codes "FAMC") (pos m n)) (below (node_tree m (k, kind.Other o))))))
        && not (has j (members own_node))) (not_other k o st.0)
    not_late j (k, kind.Event e) st at_ same = absurd (true_not_false (sym st.1))
    not_late j (k, kind.Citation e) st at_ same = absurd (true_not_false (sym st.1))
    not_late j (k, kind.Place p) st at_ same = ap (λ s. names_at s && not (has j (members own_node))) at_
    not_late j (k, kind.Repo p) st at_ same = ap (λ s. names_at s && not (has j (members own_node))) at_
    not_late j (k, kind.Source p) st at_ same = ap (λ s. names_at s && not (has j (members own_node))) at_
    not_late j (k, kind.Family p) st at_ same = ap (λ s. names_at s && not (has j (members own_node))) at_
    not_late j (k, kind.Entry p) st at_ same = ap (λ s. names_at s && not (has j (members own_node))) at_

    none_late : (j : ℕ) → is_late j ≡ false
    none_late j = by (slice_get (order m) j) refl
      where
        node_at : slice_get rs j ≡ option_map (node_tree m) (slice_get (order m) j)
        node_at = ap (λ ts. slice_get ts j) (nodes_are m) ∙ slice_get-map (node_tree m) (order m) j

        by : (o : Option Numbered) → slice_get (order m) j ≡ o → is_late j ≡ false
        by None e = ap (λ s. names_at s && not (has j (members own_node))) (node_at ∙ ap (option_map (node_tree m)) e)
        by (Some e) g = not_late j e (each_at (StandsAt0 m) j (order m) e (order_stands m) g)
            (node_at ∙ ap (option_map (node_tree m)) g)
            (positions_are m e.0
            ∙ position_back j e.0 (keys (order m)) (order_once m)
            (slice_get-map (λ (z : Numbered). z.0) (order m) j ∙ ap (option_map (λ (z : Numbered). z.0)) g))

    late_none : late rs (pos m n) own_node ≡ []
    late_none = filter_none is_late (positions (length rs))
        (each_all (λ j. is_late j ≡ false) none_late (positions (length rs)))

    -- ---- the family
    abbrev partner_of : ℕ → List model.Partner
    partner_of k = filter (λ (z : model.Partner). z.person == k) x.partners

    abbrev child_of : ℕ → List model.Child
    child_of k = filter (λ (z : model.Child). z.person == k) x.children

    onces : IsOnce (map (λ (p : model.Partner). p.person) x.partners)
        × IsOnce (map (λ (p : model.Child). p.person) x.children)
    onces = once_parts (map (λ (p : model.Partner). p.person) x.partners)
        (map (λ (p : model.Child). p.person) x.children) (is.rules.once n (kind.Family x) here)

    partners_back : map (partner_with_side rs (pos m n)) own_node.partners ≡ map (partner_with (pos m)) x.partners
    partners_back =
        let named = each_parts (sound.Stands m) (flat_map partner_links x.partners)
        (flat_map child_links x.children ++ carried_links x.carried) (is.named n (kind.Family x) here) in
        ap (map (partner_with_side rs (pos m n))) (map-map apart_partner (partner_with (pos m)) x.partners)
        ∙ map-map (partner_with_side rs (pos m n)) (λ p. apart_partner (partner_with (pos m) p)) x.partners
        ∙ map_each (λ p. partner_with_side rs (pos m n) (apart_partner (partner_with (pos m) p))) (partner_with (pos m))
        x.partners
        (each_zip (λ (p : model.Partner). PersonAt m p.person)
        (λ (p : model.Partner). first (partner_of p.person) ≡ Some p)
        (λ p. partner_with_side rs (pos m n) (apart_partner (partner_with (pos m) p)) ≡ partner_with (pos m) p)
        (λ (p : model.Partner) (a : PersonAt m p.person) (f : first (partner_of p.person) ≡ Some p).
        λ i. record {
          partnership = p.partnership;
          person = pos m p.person;
          carried = lines_with (pos m) p.carried;
          carried_by_person = partner_back p a f i;
        })
        x.partners (partners_stand m x.partners named.0)
        (first_own (λ (p : model.Partner). p.person) x.partners onces.0))

    children_back : map (child_with_side rs (pos m n)) own_node.children ≡ map (child_with (pos m)) x.children
    children_back =
        let named = each_parts (sound.Stands m) (flat_map partner_links x.partners)
        (flat_map child_links x.children ++ carried_links x.carried) (is.named n (kind.Family x) here) in
        let more = each_parts (sound.Stands m) (flat_map child_links x.children) (carried_links x.carried) named.1 in
        ap (map (child_with_side rs (pos m n))) (map-map apart_child (child_with (pos m)) x.children)
        ∙ map-map (child_with_side rs (pos m n)) (λ p. apart_child (child_with (pos m) p)) x.children
        ∙ map_each (λ p. child_with_side rs (pos m n) (apart_child (child_with (pos m) p))) (child_with (pos m))
        x.children
        (each_zip (λ (p : model.Child). PersonAt m p.person) (λ (p : model.Child). first (child_of p.person) ≡ Some p)
        (λ p. child_with_side rs (pos m n) (apart_child (child_with (pos m) p)) ≡ child_with (pos m) p)
        (λ (p : model.Child) (a : PersonAt m p.person) (f : first (child_of p.person) ≡ Some p).
        λ i. record {
          person = pos m p.person;
          carried = lines_with (pos m) p.carried;
          carried_by_person = child_back p a f i;
        })
        x.children (children_stand m x.children more.0)
        (first_own (λ (p : model.Child). p.person) x.children onces.1))

    pub family_back : family_with_sides rs (pos m n) own_node ≡ family_with (pos m) x
    family_back = λ i. record {
      partners = partners_back i;
      children = ((λ j. children_back j ++ map (late_child rs (pos m n)) (late_none j))
          ∙ append-nil (map (child_with (pos m)) x.children)) i;
      carried = lines_with (pos m) x.carried;
    }

pub sides_back : ReadsSound → FindsFamilies → SidesComeBack
sides_back reads finds c n x is here = family_back c is reads finds n x here
