-- The lines of a person that name families are for such persons, and name each family once.
use Rattle.std.specs.Prelude.{
  ℕ,
  ◌≡◌,
  ◌==◌,
  ◌||◌,
  ◌&&◌,
  Bool,
  true,
  false,
  cond,
  List,
  [],
  ◌∷◌,
  ◌++◌,
  map,
  codes,
  Some,
  option_map,
  bytes_eq,
  refl,
}
use Rattle.std.specs.List.{filter, flat_map, list_any}
use Rattle.std.specs.FinMap.{get, entries}
use Rattle.std.proofs.Common.{ap, sym, ◌∙◌, append-nil, subst, eqb}
use Rattle.std.proofs.lemmas.Bool.{eqb-true}
use Rattle.std.proofs.lemmas.List.{map-append}
use Rattle.std.proofs.lemmas.Simd.{map-map}
use Rattle.stored_lines.specs.Line.{Lines}
use Rattle.record_kinds.specs.Model as model
use Rattle.record_kinds.specs.declared.record.Record.TheVariants as kind
use Rattle.record_shapes.specs.Entries.{below_on}
use Rattle.record_shapes.specs.Forms.{number_of, tagged}
use Rattle.record_shapes.specs.Reading.{family_from}
use Rattle.record_shapes.specs.Laws.{apart_partner}
use Rattle.record_shapes.specs.Lists.{EachOf, IsOnce}
use Rattle.record_shapes.specs.Shapes.{Side, side_line}
use Rattle.archive_state.specs.Content.{Content, Records}
use Rattle.archive_state.specs.Merging.{partner_with}
use Rattle.archive_state.specs.Owned.{IsSideIn}
use Rattle.archive_state.specs.Sound.{IsSound}
use Rattle.import_definitions.specs.Positions.{known}
use Rattle.import_definitions.specs.Report.{is_partner, is_sided}
use Rattle.gedcom_export.specs.Around.{child_sides, partner_sides}
use Rattle.gedcom_export.specs.Order.{Numbered}
use Rattle.round_trip.specs.OrderLaws.{side_with}
use Rattle.round_trip.specs.Positions.{nodes_by_position}
use Rattle.round_trip.proofs.Entries.{entries_once, entries_stand, keys, Stands}
use Rattle.round_trip.proofs.Listed.{has_neither, once_append, once_not_front, other_way}
use Rattle.round_trip.proofs.Nodes.{node_tree, pos}
use Rattle.round_trip.proofs.Drafts.{Laws, family_read}
use Rattle.round_trip.proofs.Readable.{around_is, filter_none}
use Rattle.round_trip.proofs.Seen.{at_node, if_level_0, positions_apart}
use Rattle.round_trip.proofs.SideLists.{child_sides_of, has_map, is_wanted_side, once_parts, partner_sides_of}
use Rattle.round_trip.proofs.Judged.{AreSided}
use Rattle.round_trip.proofs.Members.{none_mapped, once_mapped}
use Rattle.record_shapes.proofs.Each.{each_all, each_more, each_flat, each_mapped, has}
use Rattle.list_laws.proofs.Booleans.{neither}

abbrev pub families : List Side → List ℕ
families ss = map (λ (s : Side). s.family) ss

-- ---- lines of one tag, in front of others
module _ (rs : Lines) (person : ℕ) (tag : List ℕ) (is : bytes_eq tag tag ≡ true) (P : Lines → Type 0)
    (add : (before : Lines) (s : Side) → P before → P (side_line tag s ∷ before))
    (rest : Lines) (then : (before : Lines) → P before → AreSided rs person before rest) where
  abbrev Right : Side → Type 0
  Right s = is_sided (is_partner rs person s.family) (side_line tag s) ≡ true

  abbrev Fresh : Lines → Side → Type 0
  Fresh before s = list_any (is_wanted_side tag s.family) before ≡ false

  fresh_more : (s : Side) (before : Lines) (ss : List Side) → has s.family (families ss) ≡ false
      → EachOf (Fresh before) ss → EachOf (Fresh (side_line tag s ∷ before)) ss
  fresh_more s before [] h f = tt
  fresh_more s before (x ∷ ss) h f =
      let both : ((x.family == s.family) ≡ false) × (has s.family (families ss) ≡ false) =
      neither (x.family == s.family) (has s.family (families ss)) h in
      ((λ i. (is i && other_way x.family s.family both.0 i) || f.0 i), fresh_more s before ss both.1 f.1)

  pub sided_in_front : (before : Lines) (ss : List Side) → P before → EachOf Right ss → IsOnce (families ss)
      → EachOf (Fresh before) ss → AreSided rs person before (map (side_line tag) ss ++ rest)
  sided_in_front before [] p r o f = then before p
  sided_in_front before (s ∷ ss) p r o f =
      (r.0, f.0, sided_in_front (side_line tag s ∷ before) ss (add before s p) r.1 o.1 (fresh_more s before ss o.0 f.1))

-- ---- one person in each family once
module _ {A : Type 0} (key : A → ℕ) (k : ℕ) where
  others : (xs : List A) → has k (map key xs) ≡ false → EachOf (λ x. (key x == k) ≡ false) xs
  others [] h = tt
  others (x ∷ xs) h = let both : ((key x == k) ≡ false) × (has k (map key xs) ≡ false) =
      neither (key x == k) (has k (map key xs)) h in (both.0, others xs both.1)

  -- of those of a key there is one at the most, where none is there twice
  pub one_at_most : (j : ℕ) (xs : List A) → IsOnce (map key xs)
      → IsOnce (map (λ (x : A). j) (filter (λ x. key x == k) xs))
  one_at_most j [] o = tt
  one_at_most j (x ∷ xs) o =
      elim (eqb (key x) k)
      as (λ b. eqb (key x) k ≡ b
      → IsOnce (map (λ (y : A). j) (cond b (x ∷ filter (λ y. key y == k) xs) (filter (λ y. key y == k) xs)))) [
        | true ↦ λ e.
            let none : filter (λ y. key y == k) xs
            ≡ [] = filter_none (λ y. key y == k) xs
            (others xs (ap (λ i. has i (map key xs)) (sym (eqb-true (key x) k e)) ∙ o.0)) in
            subst (λ ys. IsOnce (map (λ (y : A). j) (x ∷ ys))) (sym none) (refl, tt)
        | false ↦ λ e. one_at_most j xs o.1
      ] refl

  -- where there is one, the key is there
  pub key_there : (xs : List A) → EachOf (λ x. has k (map key xs) ≡ true) (filter (λ x. key x == k) xs)
  key_there xs = by (has k (map key xs)) refl
    where
      by : (b : Bool) → has k (map key xs) ≡ b → EachOf (λ x. has k (map key xs) ≡ true) (filter (λ x. key x == k) xs)
      by true e = each_all (λ x. has k (map key xs) ≡ true) (λ x. e) (filter (λ x. key x == k) xs)
      by false e = subst (EachOf (λ x. has k (map key xs) ≡ true))
          (sym (filter_none (λ x. key x == k) xs (others xs e))) tt

-- ---- the families of all sides of a person
module _ (g : Numbered → List Side) (of_family : (e : Numbered) → EachOf (λ (s : Side). s.family ≡ e.0) (g e)) where
  no_family : (n j : ℕ) (ss : List Side) → EachOf (λ (s : Side). s.family ≡ j) ss → (j == n) ≡ false
      → has n (families ss) ≡ false
  no_family n j [] h d = refl
  no_family n j (s ∷ ss) h d = λ i. (ap (λ q. q == n) h.0 ∙ d) i || no_family n j ss h.1 d i

  no_families : (n : ℕ) (es : List Numbered) → has n (keys es) ≡ false → has n (families (flat_map g es)) ≡ false
  no_families n [] h = refl
  no_families n (e ∷ es) h =
      let both : ((e.0 == n) ≡ false) × (has n (keys es) ≡ false) = neither (e.0 == n) (has n (keys es)) h in
      ap (has n) (map-append (λ (s : Side). s.family) (g e) (flat_map g es))
      ∙ has_neither n (families (g e)) (families (flat_map g es)) (no_family n e.0 (g e) (of_family e) both.0)
      (no_families n es both.1)

  apart_groups : (j : ℕ) (ss : List Side) (ns : List ℕ) → EachOf (λ (s : Side). s.family ≡ j) ss → has j ns ≡ false
      → EachOf (λ n. has n ns ≡ false) (families ss)
  apart_groups j [] ns h d = tt
  apart_groups j (s ∷ ss) ns h d = (ap (λ q. has q ns) h.0 ∙ d, apart_groups j ss ns h.1 d)

  pub families_once : (es : List Numbered) → IsOnce (keys es) → EachOf (λ e. IsOnce (families (g e))) es
      → IsOnce (families (flat_map g es))
  families_once [] o h = tt
  families_once (e ∷ es) o h = subst IsOnce (sym (map-append (λ (s : Side). s.family) (g e) (flat_map g es)))
      (once_append (families (g e)) (families (flat_map g es)) h.0 (families_once es o.1 h.1)
      (apart_groups e.0 (g e) (families (flat_map g es)) (of_family e) (no_families e.0 es o.0)))

-- ---- in an export
module _ (c : Content) (is : IsSound c) (laws : Laws) where
  abbrev m : Records
  m = c.records

  abbrev rs : Lines
  rs = nodes_by_position m

  partner_in : (q : ℕ) (ps : List model.Partner)
      → list_any (λ (p : model.Partner). p.person == q) (map apart_partner (map (partner_with (pos m)) ps))
      ≡ has q (map (pos m) (map (λ (p : model.Partner). p.person) ps))
  partner_in q [] = refl
  partner_in q (p ∷ ps) = ap (λ b. (pos m p.person == q) || b) (partner_in q ps)

  -- who is a partner in the archive is one in the file
  partner_is : (n k : ℕ) (x : model.Family) → get m k ≡ Some (kind.Family x)
      → is_partner rs (pos m n) (pos m k)
      ≡ has (pos m n) (map (pos m) (map (λ (p : model.Partner). p.person) x.partners))
  partner_is n k x g =
      ap (λ (y : model.Family). list_any (λ (p : model.Partner). p.person == pos m n) y.partners)
      (ap (λ ts. family_from (known rs) ts)
      (ap below_on (at_node m k ∙ ap (λ o. option_map (node_tree m) (if_level_0 m k o)) g))
      ∙ family_read c is laws k x g)
      ∙ partner_in (pos m n) x.partners

  -- ---- the sides of one person
  module _ (n : ℕ) (p : model.Person) (here : get m n ≡ Some (kind.Person p)) where
    abbrev partners : model.Family → List ℕ
    partners x = map (λ (y : model.Partner). y.person) x.partners

    abbrev children : model.Family → List ℕ
    children x = map (λ (y : model.Child). y.person) x.children

    person_apart : (i : ℕ) → pos m i ≡ pos m n → i ≡ n
    person_apart = positions_apart m n (kind.Person p) here refl

    abbrev RightChild : Side → Type 0
    RightChild s = is_sided (is_partner rs (pos m n) (pos m s.family)) (side_line (codes "FAMC") (side_with (pos m) s))
        ≡ true

    abbrev RightPartner : Side → Type 0
    RightPartner s = is_sided (is_partner rs (pos m n) (pos m s.family))
        (side_line (codes "FAMS") (side_with (pos m) s)) ≡ true

    children_right : (k : ℕ) (x : model.Family) → get m k ≡ Some (kind.Family x) → (cs : List model.Child)
        → EachOf (λ (y : model.Child). has n (children x) ≡ true) cs
        → EachOf RightChild (map
        (λ (y : model.Child). (let s : Side = record { family = k; carried = y.carried_by_person } in s)) cs)
    children_right k x g [] h = tt
    children_right k x g (y ∷ cs) h =
        let no_partner : has n (partners x)
        ≡ false = once_not_front n (partners x) (children x) (is.rules.once k (kind.Family x) g) h.0 in (
          ap (λ b. is_sided b (side_line (codes "FAMC")
              (side_with (pos m) (record { family = k; carried = y.carried_by_person }))))
              (partner_is n k x g ∙ none_mapped (pos m) n (partners x) person_apart no_partner),
          children_right k x g cs h.1,
        )

    partners_right : (k : ℕ) (x : model.Family) → get m k ≡ Some (kind.Family x) → (ps : List model.Partner)
        → EachOf (λ (y : model.Partner). has n (partners x) ≡ true) ps
        → EachOf RightPartner
        (map (λ (y : model.Partner). (let s : Side = record { family = k; carried = y.carried_by_person } in s)) ps)
    partners_right k x g [] h = tt
    partners_right k x g (y ∷ ps) h = (
      ap (λ b. is_sided b (side_line (codes "FAMS")
          (side_with (pos m) (record { family = k; carried = y.carried_by_person }))))
          (partner_is n k x g ∙ has_map (pos m) n (partners x) h.0),
      partners_right k x g ps h.1,
    )

    child_right : (e : Numbered) → Stands m e → EachOf RightChild (child_sides n e)
    child_right (k, kind.Family x) g = children_right k x g (filter (λ (y : model.Child). y.person == n) x.children)
        (key_there (λ (y : model.Child). y.person) n x.children)
    child_right (k, _) g = tt

    partner_right : (e : Numbered) → Stands m e → EachOf RightPartner (partner_sides n e)
    partner_right (k, kind.Family x) g = partners_right k x g (filter (λ (y : model.Partner). y.person == n) x.partners)
        (key_there (λ (y : model.Partner). y.person) n x.partners)
    partner_right (k, _) g = tt

    child_once : (e : Numbered) → Stands m e → IsOnce (families (child_sides n e))
    child_once (k, kind.Family x) g =
        subst IsOnce (sym (map-map (λ (s : Side). s.family)
        (λ (y : model.Child). (let s : Side = record { family = k; carried = y.carried_by_person } in s))
        (filter (λ (y : model.Child). y.person == n) x.children)))
        (one_at_most (λ (y : model.Child). y.person) n k x.children
        (once_parts (partners x) (children x) (is.rules.once k (kind.Family x) g)).1)
    child_once (k, _) g = tt

    partner_once : (e : Numbered) → Stands m e → IsOnce (families (partner_sides n e))
    partner_once (k, kind.Family x) g =
        subst IsOnce (sym (map-map (λ (s : Side). s.family)
        (λ (y : model.Partner). (let s : Side = record { family = k; carried = y.carried_by_person } in s))
        (filter (λ (y : model.Partner). y.person == n) x.partners)))
        (one_at_most (λ (y : model.Partner). y.person) n k x.partners
        (once_parts (partners x) (children x) (is.rules.once k (kind.Family x) g)).0)
    partner_once (k, _) g = tt

    -- the families of sides have positions of their own
    moved_once : (ss : List Side) → EachOf (IsSideIn m) ss → IsOnce (families ss)
        → IsOnce (families (map (side_with (pos m)) ss))
    moved_once ss h o = subst IsOnce (map-map (pos m) (λ (s : Side). s.family) ss
        ∙ sym (map-map (λ (s : Side). s.family) (side_with (pos m)) ss))
        (once_mapped (pos m) (families ss)
        (each_mapped (λ k. (i : ℕ) → pos m i ≡ pos m k → i ≡ k) (λ (s : Side). s.family) ss
        (each_more (IsSideIn m) (λ s. (i : ℕ) → pos m i ≡ pos m s.family → i ≡ s.family)
        (λ (s : Side) (w : IsSideIn m s). positions_apart m s.family (kind.Family w.0) w.1 refl) ss h)) o)

    abbrev cs : List Side
    cs = flat_map (child_sides n) (entries m)

    abbrev ps : List Side
    ps = flat_map (partner_sides n) (entries m)

    children_once : IsOnce (families (map (side_with (pos m)) cs))
    children_once = moved_once cs ((around_is c is).child_in n)
        (families_once (child_sides n) (child_sides_of n) (entries m) (entries_once m)
        (each_more (Stands m) (λ e. IsOnce (families (child_sides n e))) child_once (entries m) (entries_stand m)))

    partners_once : IsOnce (families (map (side_with (pos m)) ps))
    partners_once = moved_once ps ((around_is c is).partner_in n)
        (families_once (partner_sides n) (partner_sides_of n) (entries m) (entries_once m)
        (each_more (Stands m) (λ e. IsOnce (families (partner_sides n e))) partner_once (entries m)
        (entries_stand m)))

    -- no line with FAMC is one with FAMS
    abbrev HaveChildTag : Lines → Type 0
    HaveChildTag before = EachOf (λ t. tagged (codes "FAMS") t ≡ false) before

    fresh : (j : ℕ) (before : Lines) → HaveChildTag before → list_any (is_wanted_side (codes "FAMS") j) before ≡ false
    fresh j [] h = refl
    fresh j (t ∷ before) h = λ i. (h.0 i && number_of t == j) || fresh j before h.1 i

    all_fresh : (before : Lines) → HaveChildTag before → (ss : List Side)
        → EachOf (λ (s : Side). list_any (is_wanted_side (codes "FAMS") s.family) before ≡ false) ss
    all_fresh before h [] = tt
    all_fresh before h (s ∷ ss) = (fresh s.family before h, all_fresh before h ss)

    none_before : (ss : List Side)
        → EachOf (λ (s : Side). list_any (is_wanted_side (codes "FAMC") s.family) [] ≡ false) ss
    none_before [] = tt
    none_before (s ∷ ss) = (refl, none_before ss)

    pub person_sided : AreSided rs (pos m n) []
        (map (side_line (codes "FAMC")) (map (side_with (pos m)) cs)
        ++ map (side_line (codes "FAMS")) (map (side_with (pos m)) ps))
    person_sided = sided_in_front rs (pos m n) (codes "FAMC") refl HaveChildTag (λ before s h. (refl, h))
        (map (side_line (codes "FAMS")) (map (side_with (pos m)) ps))
        (λ before h. subst (AreSided rs (pos m n) before)
        (append-nil (map (side_line (codes "FAMS")) (map (side_with (pos m)) ps)))
        (sided_in_front rs (pos m n) (codes "FAMS") refl (λ before. Unit {0}) (λ before s h. tt) [] (λ before h. tt)
        before (map (side_with (pos m)) ps) tt
        (each_mapped (λ (s : Side). is_sided (is_partner rs (pos m n) s.family) (side_line (codes "FAMS") s) ≡ true)
        (side_with (pos m)) ps
        (each_flat RightPartner (partner_sides n) (entries m)
        (each_more (Stands m) (λ e. EachOf RightPartner (partner_sides n e)) partner_right (entries m)
        (entries_stand m))))
        partners_once (all_fresh before h (map (side_with (pos m)) ps))))
        [] (map (side_with (pos m)) cs) tt
        (each_mapped (λ (s : Side). is_sided (is_partner rs (pos m n) s.family) (side_line (codes "FAMC") s) ≡ true)
        (side_with (pos m)) cs
        (each_flat RightChild (child_sides n) (entries m)
        (each_more (Stands m) (λ e. EachOf RightChild (child_sides n e)) child_right (entries m)
        (entries_stand m))))
        children_once (none_before (map (side_with (pos m)) cs))
