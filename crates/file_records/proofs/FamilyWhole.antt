-- A family with the lines that its sides tell is the family with both sides.
use Rattle.std.proofs.Common.{
  ◌≡◌,
  ℕ,
  Bool,
  true,
  false,
  List,
  [],
  ◌∷◌,
  ◌++◌,
  length,
  refl,
  sym,
  ap,
  ◌∙◌,
  subst,
  cond,
  map,
}
use Rattle.std.specs.Prelude.{◌&&◌, ◌||◌, ◌==◌, not, Option, Some, None, bytes_eq, codes}
use Rattle.std.specs.List.{filter, list_any}
use Rattle.std.proofs.lemmas.Bool.{and_parts, eqb-true}
use Rattle.std.proofs.lemmas.List.{length-map}
use Rattle.std.proofs.lemmas.List.Elements.{filter_agree}
use Rattle.stored_lines.specs.Tree.{Tree}
use Rattle.stored_lines.specs.Line.{Line, Lines}
use Rattle.stored_lines.specs.declared.carried.Value.{Value}
use Rattle.stored_lines.specs.declared.carried.Value.TheVariants as value
use Rattle.record_kinds.specs.Model as model
use Rattle.record_shapes.specs.Fields.{a_member, family_field, is_citation, is_same}
use Rattle.record_shapes.specs.Forms.{
  Known,
  is_among,
  is_some,
  is_text,
  names_a,
  number_in,
  number_of,
  tagged,
  value_of,
}
use Rattle.record_shapes.specs.Members.{members}
use Rattle.record_shapes.specs.Picking.{all_of}
use Rattle.record_shapes.specs.Reading.{child_from, family_from, is_child_line, once, partner_from}
use Rattle.record_shapes.specs.Tags.{family_tags}
use Rattle.import_definitions.specs.Nodes.{FileNode}
use Rattle.import_definitions.specs.Lines.{lined_root, lined_roots, place_in, roots, unlined}
use Rattle.import_definitions.specs.Numbers.{or_else}
use Rattle.import_definitions.specs.Positions.{known, positions, tag_at}
use Rattle.import_definitions.specs.Sides.{
  child_with_side,
  family_with_sides,
  late,
  late_child,
  lines_at,
  names_parents,
  partner_with_side,
  side_of,
}
use Rattle.file_records.specs.Lookups.{fit_tag}
use Rattle.file_records.specs.Taken.{is_none, named_in}
use Rattle.file_records.specs.declared.sides.Side.{Side}
use Rattle.file_records.proofs.FieldRows.{member_row}
use Rattle.file_records.proofs.Partners.{line_first, named_told}
use Rattle.file_records.specs.Carried.{
  carried_at,
  child_told,
  late_sides,
  late_told,
  line_among,
  partner_told,
}
use Rattle.file_records.proofs.FamilyMembers.{each_same, is_member}
use Rattle.file_records.proofs.FamilySides.{carried_is, is_late, late_are, sides_of}
use Rattle.list_laws.proofs.Lists.{map_map}

map_picked : {A B : Type 0} (p : A → Bool) (f g : A → B) → ((x : A) → p x ≡ true → f x ≡ g x) → (xs : List A)
    → map f (filter p xs) ≡ map g (filter p xs)
map_picked p f g h [] = refl
map_picked p f g h (x ∷ xs) =
    elim (p x) as (λ b. p x ≡ b → map f (cond b (x ∷ filter p xs) (filter p xs))
    ≡ map g (cond b (x ∷ filter p xs) (filter p xs))) [
      | true ↦ λ e. (λ i. h x e i ∷ map_picked p f g h xs i)
      | false ↦ λ e. map_picked p f g h xs
    ] refl

-- a line that names a member names a person
names_tag : (k : Known) (v : Value) → names_a (codes "INDI") k v ≡ true
    → bytes_eq (k.tag (number_in v)) (codes "INDI") ≡ true
names_tag k (value.Text t) e = absurd cc
names_tag k (value.Ref n) e = e

line_tag : (k : Known) (n : ℕ) (t : Tree Line)
    → (is_same (family_field k t) a_member && (number_of t == n)) ≡ true → bytes_eq (k.tag n) (codes "INDI") ≡ true
line_tag k n t e =
    let tags : Bool = tagged (codes "HUSB") t || (tagged (codes "WIFE") t || tagged (codes "CHIL") t) in
    let p = and_parts (is_same (family_field k t) a_member) (number_of t == n) e in
    let m = sym (member_row (tags && names_a (codes "INDI") k (value_of t)) (is_among family_tags t && is_text t)
    (is_citation k t)) ∙ p.0 in
    ap (λ x. bytes_eq (k.tag x) (codes "INDI")) (sym (eqb-true (number_of t) n p.1))
    ∙ names_tag k (value_of t) (and_parts tags (names_a (codes "INDI") k (value_of t)) m).1

member_tag : (k : Known) (n : ℕ) (ts : Lines) (b : Bool) → line_first k n ts ≡ Some b
    → bytes_eq (k.tag n) (codes "INDI") ≡ true
member_tag k n [] b e = absurd cc
member_tag k n (t ∷ ts) b e =
    elim (is_same (family_field k t) a_member && (number_of t == n)) as (λ x.
    (is_same (family_field k t) a_member && (number_of t == n)) ≡ x
    → or_else (cond x (Some (not (is_child_line t))) None) (line_first k n ts) ≡ Some b
    → bytes_eq (k.tag n) (codes "INDI") ≡ true) [
      | true ↦ λ is f. line_tag k n t is
      | false ↦ λ is f. member_tag k n ts b f
    ] refl e

unless_none : (m : Option Bool) → not (is_some m) ≡ is_none m
unless_none None = refl
unless_none (Some b) = refl

child_kept : (b : Bool) → b ≡ true → Some (not b) ≡ Some false
child_kept b e = ap (λ x. Some (not x)) e

partner_kept : (b : Bool) → not b ≡ true → Some (not b) ≡ Some true
partner_kept b e = ap Some e

module _ (ks : List FileNode) (k : ℕ) (is_family : bytes_eq (tag_at (roots ks) k) (codes "FAM") ≡ true) where
  abbrev rs : Lines
  rs = roots ks

  abbrev ts : Lines
  ts = lines_at (roots ks) k

  abbrev read_family : model.Family
  read_family = family_from (known (roots ks)) (lines_at (roots ks) k)

  named_as : (n : ℕ) (b : Bool) → line_first (known (roots ks)) n (lines_at (roots ks) k) ≡ Some b
      → carried_at ks (line_among (sides_of ks k)) n ≡ side_of (roots ks) (fit_tag (Some b)) k n
  named_as n b e =
      carried_is ks n k (member_tag (known (roots ks)) n (lines_at (roots ks) k) b e)
      ∙ ap (λ m. side_of (roots ks) (fit_tag m) k n) (sym (named_told ks n k is_family) ∙ e)

  partners_are : map (partner_told ks (line_among (sides_of ks k))) read_family.partners
      ≡ map (partner_with_side (roots ks) k) read_family.partners
  partners_are =
      let us : Lines = filter (λ t. not (is_child_line t))
      (once (all_of (family_field (known (roots ks))) a_member (lines_at (roots ks) k))) in
      map_map (partner_told ks (line_among (sides_of ks k))) partner_from us
      ∙ each_same (known (roots ks)) (λ t. not (is_child_line t)) (Some true)
      (λ t. partner_told ks (line_among (sides_of ks k)) (partner_from t))
      (λ t. partner_with_side (roots ks) k (partner_from t))
      (λ t e. partner_kept (is_child_line t) e) (lines_at (roots ks) k) []
      (λ t free e. ap (λ (c : Lines). record (partner_from t) { carried_by_person = c })
      (named_as (number_of t) true e))
      ∙ sym (map_map (partner_with_side (roots ks) k) partner_from us)

  children_are : map (child_told ks (line_among (sides_of ks k))) read_family.children
      ≡ map (child_with_side (roots ks) k) read_family.children
  children_are =
      let us : Lines = filter is_child_line
      (once (all_of (family_field (known (roots ks))) a_member (lines_at (roots ks) k))) in
      map_map (child_told ks (line_among (sides_of ks k))) child_from us
      ∙ each_same (known (roots ks)) is_child_line (Some false)
      (λ t. child_told ks (line_among (sides_of ks k)) (child_from t))
      (λ t. child_with_side (roots ks) k (child_from t))
      (λ t e. child_kept (is_child_line t) e) (lines_at (roots ks) k) []
      (λ t free e. ap (λ (c : Lines). record (child_from t) { carried_by_person = c })
      (named_as (number_of t) false e))
      ∙ sym (map_map (child_with_side (roots ks) k) child_from us)

  -- ---- the last children
  late_test : (n : ℕ) → is_late ks k n
      ≡ (names_parents (roots ks) k n && not (list_any (λ m. m == n) (members read_family)))
  late_test n = ap (λ b. names_parents (roots ks) k n && b)
      (sym (ap not (is_member (known (roots ks)) n (lines_at (roots ks) k)
      ∙ ap is_some (named_told ks n k is_family)) ∙ unless_none (named_in ks k n)))

  roots_length : length (roots ks) ≡ length ks
  unfolding roots
  roots_length = length-map (lined_roots ks) unlined ∙ length-map ks (lined_root (place_in ks))

  late_same : map (λ (s : Side). s.person) (late_sides (sides_of ks k)) ≡ late (roots ks) k read_family
  late_same = late_are ks k ∙ ap (λ l. filter (is_late ks k) (positions l)) (sym roots_length)
      ∙ filter_agree (is_late ks k) (λ n. names_parents (roots ks) k n
      && not (list_any (λ m. m == n) (members read_family))) late_test (positions (length (roots ks)))

  unnamed : (m : Option Bool) → is_none m ≡ true → m ≡ None
  unnamed None e = refl
  unnamed (Some b) e = absurd cc

  late_one : (n : ℕ) → is_late ks k n ≡ true
      → carried_at ks (line_among (sides_of ks k)) n ≡ side_of (roots ks) (codes "FAMC") k n
  late_one n e =
      let p = and_parts (names_parents (roots ks) k n) (is_none (named_in ks k n)) e in
      carried_is ks n k (and_parts (bytes_eq (tag_at (roots ks) n) (codes "INDI")) _ p.0).0
      ∙ ap (λ m. side_of (roots ks) (fit_tag m) k n) (unnamed (named_in ks k n) p.1)

  -- children only by the person
  abbrev told_child : ℕ → model.Child
  told_child n = record { person = n; carried = []; carried_by_person = carried_at ks (line_among (sides_of ks k)) n }

  late_children : map (late_told ks (line_among (sides_of ks k))) (late_sides (sides_of ks k))
      ≡ map (late_child (roots ks) k) (late (roots ks) k read_family)
  late_children =
      sym (map_map told_child (λ (s : Side). s.person) (late_sides (sides_of ks k)))
      ∙ ap (map told_child) (late_are ks k)
      ∙ map_picked (is_late ks k) told_child (late_child (roots ks) k)
      (λ n e. ap (λ (c : Lines). record { person = n; carried = []; carried_by_person = c }) (late_one n e))
      (positions (length ks))
      ∙ ap (map (late_child (roots ks) k)) (sym (late_are ks k) ∙ late_same)

  -- ---- the family
  whole_read : (after : model.Family)
      → after.partners ≡ map (partner_told ks (line_among (sides_of ks k))) read_family.partners
      → after.children ≡ map (child_told ks (line_among (sides_of ks k))) read_family.children
      ++ map (late_told ks (line_among (sides_of ks k))) (late_sides (sides_of ks k))
      → after.carried ≡ read_family.carried
      → after ≡ family_with_sides (roots ks) k read_family
  whole_read after ps cs carried = λ i. record {
    partners = (ps ∙ partners_are) i;
    children = (cs ∙ (λ j. children_are j ++ late_children j)) i;
    carried = carried i;
  }

  pub whole_is : (f : model.Family) → f ≡ read_family → (after : model.Family)
      → after.partners ≡ map (partner_told ks (line_among (sides_of ks k))) f.partners
      → after.children ≡ map (child_told ks (line_among (sides_of ks k))) f.children
      ++ map (late_told ks (line_among (sides_of ks k))) (late_sides (sides_of ks k))
      → after.carried ≡ f.carried
      → after ≡ family_with_sides (roots ks) k f
  whole_is f e = subst (λ (g : model.Family). (after : model.Family)
      → after.partners ≡ map (partner_told ks (line_among (sides_of ks k))) g.partners
      → after.children ≡ map (child_told ks (line_among (sides_of ks k))) g.children
      ++ map (late_told ks (line_among (sides_of ks k))) (late_sides (sides_of ks k))
      → after.carried ≡ g.carried
      → after ≡ family_with_sides (roots ks) k g) (sym e) whole_read

  -- the same as code puts it together: from the sides of the family, and the lines that are kept of them
  pub whole_told : (f : model.Family) → f ≡ read_family → (before : model.Family) → f ≡ before
      → (own : List Side) → own ≡ sides_of ks k
      → (lines : ℕ → Option ℕ) → ((n : ℕ) → lines n ≡ line_among own n)
      → (after : model.Family) (children : List model.Child)
      → after.partners ≡ map (partner_told ks lines) before.partners
      → children ≡ map (child_told ks lines) before.children
      → after.children ≡ children ++ map (late_told ks lines) (late_sides own)
      → after.carried ≡ before.carried
      → after ≡ family_with_sides (roots ks) k f
  whole_told f e before seen own owns lines kept after children ps cs late carried =
      let same : lines ≡ line_among (sides_of ks k) = λ i n. (kept n ∙ ap (λ ss. line_among ss n) owns) i in
      whole_is f e after
      (ps ∙ (λ i. map (partner_told ks (same i)) (sym seen i).partners))
      (late ∙ ap (λ us. us ++ map (late_told ks lines) (late_sides own)) cs
      ∙ (λ i. map (child_told ks (same i)) (sym seen i).children
      ++ map (late_told ks (same i)) (late_sides (owns i))))
      (carried ∙ (λ i. (sym seen i).carried))
