-- What the records that are read at nodes of a file name.
use Rattle.std.proofs.Common.{◌≡◌, ℕ, ◌<◌, Bool, true, false, not, List, [], ◌∷◌, ◌++◌, length, refl, sym, subst}
use Rattle.std.specs.Prelude.{
  Option,
  Some,
  None,
  IfSome,
  map,
  option_map,
  ◌&&◌,
  ◌==◌,
  nat_le,
  bytes_eq,
  codes,
  if◌then◌else◌,
}
use Rattle.std.specs.List.{filter, flat_map, list_all, list_any, slice_get}
use Rattle.std.proofs.lemmas.Bool.{and_parts}
use Rattle.stored_lines.specs.Line.{Line, Lines}
use Rattle.stored_lines.specs.Tree.{Tree, node, none, list_of}
use Rattle.stored_lines.specs.declared.carried.Value.{Value}
use Rattle.record_kinds.specs.Model as model
use Rattle.record_kinds.specs.declared.record.Record.TheVariants as kind
use Rattle.archive_state.specs.Links.{
  Link,
  a_person,
  a_place,
  carried_links,
  child_links,
  field_links,
  forest_links,
  holding_links,
  links,
  mention_links,
  name_links,
  partner_links,
  value_links,
}
use Rattle.record_shapes.specs.declared.field.Field.{Field}
use Rattle.record_shapes.specs.Entries.{entry_of, entry_on, is_entry, is_said, is_said_path, names_person, below_on}
use Rattle.record_shapes.specs.Fields.{
  a_call_number,
  a_holding,
  a_member,
  a_name,
  a_parent,
  a_publisher,
  a_sex,
  a_title,
  an_author,
  family_field,
  holding_field,
  is_above,
  is_same,
  parent_field,
  person_field,
  place_field,
  repo_field,
  source_field,
}
use Rattle.record_shapes.specs.Forms.{Known, below, is_some, number_of, text_in}
use Rattle.record_shapes.specs.Lists.{EachOf}
use Rattle.record_shapes.specs.Paths.{has_part}
use Rattle.record_shapes.specs.Picking.{all_of, without_first}
use Rattle.record_shapes.specs.Reading.{
  Draft,
  child_from,
  entry_or_other,
  family_from,
  holding_from,
  is_child_line,
  member_lines,
  name_from,
  parent_line,
  partner_from,
  person_from,
  place_from,
  place_name,
  registered,
  repo_from,
  source_from,
}
use Rattle.record_shapes.specs.Roles.{is_role_of}
use Rattle.import_definitions.specs.Positions.{known, known_before, positions, tag_at}
use Rattle.import_definitions.specs.Sides.{
  child_with_side,
  draft_at,
  family_with_sides,
  late,
  late_child,
  lines_at,
  names_family,
  names_parents,
  partner_with_side,
  root_with_sides,
  side_line,
  side_of,
}
use Rattle.imports.specs.Read.{IsLine, IsNode, PointsWithin}
use Rattle.imports.proofs.Fine.{below_lines, each_but_first, each_left}
use Rattle.imports.proofs.Left.{first_is}
use Rattle.imports.proofs.Links.{
  EachNamed,
  Names,
  NamesAll,
  PlaceIs,
  below_low,
  field_lines,
  lines_named,
  made_of_each,
  value_named,
}
use Rattle.imports.proofs.SoundLists.{each_filter, filter_holds, if_first}
use Rattle.imports.proofs.Paths.{known_earlier, placed_loc}
use Rattle.imports.proofs.ReadEntries.{each_true, guessed}
use Rattle.imports.proofs.ReadFamilies.{each_get, each_once}
use Rattle.imports.proofs.ReadNodes.{chosen, no_sides}
use Rattle.imports.proofs.LinksMet.{
  IsFit98,
  family_cites,
  holding_met,
  member_met,
  owned_named,
  parent_met,
  person_cites,
}
use Rattle.record_shapes.proofs.Each.{each_both, each_front, each_more, each_zip, each_flat, each_mapped}

-- ---- nodes
module _ (rs : Lines) (count : ℕ) (nodes : EachOf (λ t. IsNode t × PointsWithin count t) rs) where
  abbrev kn : Known
  kn = known rs

  abbrev N : Link → Type 0
  N l = Names kn count l

  abbrev L : Tree Line → Type 0
  L t = PointsWithin count t

  repo_named : (ts : Lines) → EachOf L ts → EachOf N (links (kind.Repo (repo_from ts)))
  repo_named ts h = lines_named kn count (repo_from ts).carried (each_left L repo_field (a_name ∷ []) ts h)

  holding_named : (t : Tree Line) → L t × (is_same (source_field kn t) a_holding ≡ true)
      → EachOf N (holding_links (holding_from t))
  holding_named t h = (
    holding_met kn t h.1,
    lines_named kn count (holding_from t).carried
        (each_left L holding_field (a_call_number ∷ []) (below t) (below_low kn count t h.0)),
  )

  source_named : (ts : Lines) → EachOf L ts → EachOf N (links (kind.Source (source_from kn ts)))
  source_named ts h =
      let field : Tree Line → Field = source_field kn in
      let s : model.Source = source_from kn ts in
      each_both N (flat_map holding_links s.holdings) (carried_links s.carried)
      (each_flat N holding_links s.holdings
      (made_of_each kn count (λ t. L t × (is_same (field t) a_holding ≡ true))
      (λ (x : model.Holding). EachOf N (holding_links x)) holding_from holding_named (all_of field a_holding ts)
      (field_lines kn count field a_holding ts h)))
      (lines_named kn count s.carried (each_left L field (a_title ∷ an_author ∷ a_publisher ∷ []) ts h))

  person_named : (ts : Lines) → EachOf L ts → EachOf N (links (kind.Person (person_from kn ts)))
  person_named ts h =
      let field : Tree Line → Field = person_field kn in
      let p : model.Person = person_from kn ts in
      each_both N (flat_map name_links p.names) (carried_links p.carried)
      (each_flat N name_links p.names
      (made_of_each kn count L (λ (n : model.Name). EachOf N (name_links n)) name_from
      (λ t k. lines_named kn count (below t) (below_low kn count t k)) (all_of field a_name ts)
      (each_filter L (λ t. is_same (field t) a_name) ts h)))
      (lines_named kn count p.carried (each_left L field (a_sex ∷ []) ts h))

  -- ---- families
  node_low : (o : Option (Tree Line)) → IfSome o (λ t. IsNode t × L t) → EachOf L (below_on o)
  node_low None h = tt
  node_low (Some t) h = below_low kn count t h.1

  line_low : (o : Option (Tree Line)) → IfSome o L → EachOf L (below_on o)
  line_low None h = tt
  line_low (Some t) h = below_low kn count t h

  side_named : (tag : List ℕ) (family person : ℕ) → EachOf N (carried_links (side_of rs tag family person))
  side_named tag family person =
      let ts : Lines = lines_at rs person in
      lines_named kn count (side_of rs tag family person)
      (line_low (side_line rs tag family person) (if_first L (filter (names_family kn tag family) ts)
      (each_filter L (names_family kn tag family) ts
      (node_low (slice_get rs person) (each_get (λ t. IsNode t × L t) rs person nodes)))))

  abbrev IsMember : Tree Line → Type 0
  IsMember t = L t × (is_same (family_field kn t) a_member ≡ true)

  partner_named : (k : ℕ) (t : Tree Line) → IsMember t → EachOf N (partner_links (partner_with_side rs k
      (partner_from t)))
  partner_named k t h = (
    member_met kn t h.1,
    each_both N (carried_links (below t)) (carried_links (side_of rs (codes "FAMS") k (number_of t)))
        (lines_named kn count (below t) (below_low kn count t h.0)) (side_named (codes "FAMS") k (number_of t)),
  )

  child_named : (k : ℕ) (t : Tree Line) → IsMember t → EachOf N (child_links (child_with_side rs k (child_from t)))
  child_named k t h = (
    member_met kn t h.1,
    each_both N (carried_links (below t)) (carried_links (side_of rs (codes "FAMC") k (number_of t)))
        (lines_named kn count (below t) (below_low kn count t h.0)) (side_named (codes "FAMC") k (number_of t)),
  )

  late_named : (k n : ℕ) → names_parents rs k n ≡ true → EachOf N (child_links (late_child rs k n))
  late_named k n e = (
    (and_parts (bytes_eq (tag_at rs n) (codes "INDI")) (is_some (side_line rs (codes "FAMC") k n)) e).0,
    side_named (codes "FAMC") k n,
  )

  family_named : (k : ℕ) (ts : Lines) → EachOf L ts
      → EachOf N (links (kind.Family (family_with_sides rs k (family_from kn ts))))
  family_named k ts h =
      let field : Tree Line → Field = family_field kn in
      let f : model.Family = family_from kn ts in
      let x : model.Family = family_with_sides rs k f in
      let ms : Lines = member_lines kn ts in
      let kept : EachOf IsMember ms = each_once IsMember [] (all_of field a_member ts)
      (field_lines kn count field a_member ts h) in
      let OfPartner : model.Partner → Type 0 = λ p. EachOf N (partner_links p) in
      let OfChild : model.Child → Type 0 = λ c. EachOf N (child_links c) in
      let test : ℕ → Bool = λ n. names_parents rs k n && not (list_any (λ m. m == n)
      (map (λ (p : model.Partner). p.person) f.partners ++ map (λ (c : model.Child). c.person) f.children)) in
      let partners : EachOf OfPartner x.partners = each_mapped OfPartner (partner_with_side rs k) f.partners
      (made_of_each kn count IsMember (λ p. OfPartner (partner_with_side rs k p)) partner_from (partner_named k)
      (filter (λ t. not (is_child_line t)) ms) (each_filter IsMember (λ t. not (is_child_line t)) ms kept)) in
      let children : EachOf OfChild x.children = each_both OfChild (map (child_with_side rs k) f.children)
      (map (late_child rs k) (late rs k f))
      (each_mapped OfChild (child_with_side rs k) f.children
      (made_of_each kn count IsMember (λ c. OfChild (child_with_side rs k c)) child_from (child_named k)
      (filter is_child_line ms) (each_filter IsMember is_child_line ms kept)))
      (each_mapped OfChild (late_child rs k) (late rs k f)
      (each_more (λ n. test n ≡ true) (λ n. OfChild (late_child rs k n))
      (λ n e. late_named k n (and_parts (names_parents rs k n) (not (list_any (λ m. m == n)
      (map (λ (p : model.Partner). p.person) f.partners ++ map (λ (c : model.Child). c.person) f.children))) e).0)
      (late rs k f) (filter_holds test (positions (length rs))))) in
      each_both N (flat_map partner_links x.partners) (flat_map child_links x.children ++ carried_links x.carried)
      (each_flat N partner_links x.partners partners)
      (each_both N (flat_map child_links x.children) (carried_links x.carried)
      (each_flat N child_links x.children children)
      (lines_named kn count x.carried (each_left L field [] ts h)))

  -- ---- places
  above_loc : (k n : ℕ) (name : List ℕ) (o : Option (List ℕ)) → (known_before rs k).path n ≡ o
      → is_above name o ≡ true → bytes_eq (tag_at rs n) (codes "_LOC") ≡ true
  above_loc k n name None at e = absurd cc
  above_loc k n name (Some q) at e = placed_loc rs n q (known_earlier rs k n q at).1

  parent_named : (k : ℕ) (called : List ℕ) (o : Option (Tree Line))
      → IfSome o (λ t. is_same (parent_field (known_before rs k) called t) a_parent ≡ true)
      → EachOf N (field_links a_place (option_map number_of o))
  parent_named k called None h = tt
  parent_named k called (Some t) h = (
    above_loc k (number_of t) called ((known_before rs k).path (number_of t)) refl (parent_met rs k called t h),
    tt,
  )

  place_named : (k : ℕ) (ts : Lines) → EachOf L ts → EachOf N (links (kind.Place (place_from (known_before rs k) ts)))
  place_named k ts h =
      let p : model.Place = place_from (known_before rs k) ts in
      let field : Tree Line → Field = parent_field (known_before rs k) (place_name ts) in
      each_both N (field_links a_place p.parent) (carried_links p.carried)
      (parent_named k (place_name ts) (parent_line (known_before rs k) ts) (first_is field a_parent ts))
      (lines_named kn count p.carried (each_left L field (a_parent ∷ []) (without_first place_field a_name ts)
      (each_but_first L place_field a_name ts h)))

  -- ---- entries and records of no other kind
  said_named : (o : Option ℕ) → is_said kn o ≡ true → EachOf N (field_links a_place o)
  said_named None e = tt
  said_named (Some n) e = (by (kn.path n) refl e, tt)
    where
      by : (p : Option (List ℕ)) → kn.path n ≡ p → is_said_path p ≡ true → bytes_eq (kn.tag n) (codes "_LOC") ≡ true
      by None at f = absurd cc
      by (Some q) at f = placed_loc rs n q at

  -- the place of an entry has a path with a part that is not empty
  said_place : (o : Option ℕ) → is_said kn o ≡ true → IfSome o (PlaceIs kn None)
  said_place None e = tt
  said_place (Some n) e = by (kn.path n) refl e
    where
      by : (p : Option (List ℕ)) → kn.path n ≡ p → is_said_path p ≡ true
          → (q : List ℕ) × (kn.path n ≡ Some q) × (has_part q ≡ true)
      by None at f = absurd cc
      by (Some q) at f = (q, at, f)

  entry_said : (e : model.Entry) → is_entry kn e ≡ true → is_said kn e.place ≡ true
  entry_said e h =
      let rest : Bool = nat_le 1 (length e.mentions) && (nat_le (length e.mentions) 100
      && list_all (λ (m : model.Mention). is_role_of e.kind m.role && names_person kn m.link) e.mentions) in
      (and_parts (is_said kn e.place) rest
      (and_parts (bytes_eq (kn.tag e.source) (codes "SOUR")) (is_said kn e.place && rest) h).1).0

  mention_named : (l : Option model.Link) → names_person kn l ≡ true
      → EachOf N (field_links a_person (option_map (λ (x : model.Link). x.person) l))
  mention_named None e = tt
  mention_named (Some l) e = (e, tt)

  is_entry_named : (e : model.Entry) → is_entry kn e ≡ true → EachOf N (links (kind.Entry e))
  is_entry_named e h =
      let whole : model.Mention → Bool = λ m. is_role_of e.kind m.role && names_person kn m.link in
      let all : Bool = list_all whole e.mentions in
      let count_is : Bool = nat_le (length e.mentions) 100 && all in
      let a = and_parts (bytes_eq (kn.tag e.source) (codes "SOUR"))
      (is_said kn e.place && (nat_le 1 (length e.mentions) && count_is)) h in
      let b = and_parts (is_said kn e.place) (nat_le 1 (length e.mentions) && count_is) a.1 in
      let c = and_parts (nat_le 1 (length e.mentions)) count_is b.1 in
      let d = and_parts (nat_le (length e.mentions) 100) all c.1 in (
        a.0,
        each_both N (field_links a_place e.place) (flat_map mention_links e.mentions) (said_named e.place b.0)
            (each_flat N mention_links e.mentions
            (each_more (λ m. whole m ≡ true) (λ m. EachOf N (mention_links m))
            (λ m k. mention_named m.link (and_parts (is_role_of e.kind m.role) (names_person kn m.link) k).1) e.mentions
            (each_true whole e.mentions d.1))),
      )

  registered_named : (tag : List ℕ) (v : Value) (ts : Lines) → EachOf N (value_links v)
      → EachOf L ts → NamesAll kn count None None (registered kn tag v ts)
  registered_named tag v ts said h = by (bytes_eq tag (codes "_REG")) (entry_of kn v ts) refl
    where
      by : (b : Bool) (e : Option model.Entry) → entry_of kn v ts ≡ e
          → NamesAll kn count None None (entry_or_other tag v ts (if b then e else None))
      by true (Some x) is = let g = guessed kn v ts x is in
          subst (λ y. NamesAll kn count None None (kind.Entry y)) g.1 (
            refl,
            is_entry_named (entry_on (text_in v) ts) g.0,
            said_place (entry_on (text_in v) ts).place (entry_said (entry_on (text_in v) ts) g.0),
          )
      by true None is = (refl, each_both N (value_links v) (carried_links ts) said (lines_named kn count ts h))
      by false e is = (refl, each_both N (value_links v) (carried_links ts) said (lines_named kn count ts h))

  pub node_named : (k : ℕ) (r : Tree Line) → IsNode r × L r → EachNamed kn count None (draft_at rs k r)
  node_named k (node l f) h =
      let ts : Lines = list_of f in
      let lows : EachOf L ts = below_low kn count (node l f) h.1 in
      let fit : EachOf (IsFit98 count) ts = each_zip (IsLine 98) L (IsFit98 count) (λ t a b. (a, b)) ts
      (below_lines 98 99 refl (node l f) h.0.line) lows in
      let Q : Tree Draft → Type 0 = λ t. EachNamed kn count None (root_with_sides rs k t) in
      let of_value : EachOf N (value_links l.value) = value_named kn count l.value
      (each_front (λ (x : Link). x.0 < count) (value_links l.value) (forest_links f) h.1) in
      chosen Q (bytes_eq l.tag (codes "_LOC")) _ _ (λ e. ((refl, place_named k ts lows), tt, tt)) (λ loc.
      chosen Q (bytes_eq l.tag (codes "REPO")) _ _ (λ e. ((refl, repo_named ts lows), tt, tt)) (λ repo.
      chosen Q (bytes_eq l.tag (codes "SOUR")) _ _ (λ e. ((refl, source_named ts lows), tt, tt)) (λ source.
      chosen Q (bytes_eq l.tag (codes "INDI")) _ _ (λ e. (
        (refl, person_named ts lows),
        tt,
        owned_named kn count (kind.Person (person_from kn ts)) refl refl (person_field kn) (person_cites kn) ts fit,
      )) (λ person.
      chosen Q (bytes_eq l.tag (codes "FAM")) _ _ (λ e. (
        (refl, family_named k ts lows),
        tt,
        owned_named kn count (kind.Family (family_with_sides rs k (family_from kn ts))) refl refl (family_field kn)
            (family_cites kn) ts fit,
      )) (λ family. subst (λ d. EachNamed kn count None (node d none)) (sym (no_sides rs k kn l.tag l.value ts))
      (registered_named l.tag l.value ts of_value lows, tt, tt))))))
