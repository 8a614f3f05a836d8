-- What lines below nodes name, by the fields that they are of; and what persons and families own.
use Rattle.std.proofs.Common.{◌≡◌, ℕ, Bool, true, not, List, [], ◌∷◌, refl}
use Rattle.std.specs.Prelude.{Some, ◌&&◌, ◌||◌, bytes_eq, codes}
use Rattle.std.specs.List.{flat_map}
use Rattle.std.proofs.lemmas.Bool.{and_parts}
use Rattle.stored_lines.specs.Line.{Line, Lines}
use Rattle.stored_lines.specs.Tree.{Tree, forest_of}
use Rattle.record_kinds.specs.declared.record.Record.{Record}
use Rattle.archive_state.specs.Links.{a_cited, a_holder}
use Rattle.record_shapes.specs.declared.field.Field.{Field}
use Rattle.record_shapes.specs.Fields.{
  a_citation,
  a_holding,
  a_member,
  a_name,
  a_parent,
  a_publisher,
  a_sex,
  a_side,
  a_title,
  an_author,
  an_event,
  carried,
  family_field,
  is_above,
  is_citation,
  is_same,
  parent_field,
  person_field,
  row,
  source_field,
}
use Rattle.record_shapes.specs.Forms.{
  Known,
  below,
  is_among,
  is_bare,
  is_childless,
  is_some,
  is_text,
  names_a,
  number_of,
  tagged,
  text_of,
  value_of,
}
use Rattle.record_fields.specs.Words.{sex_of}
use Rattle.record_shapes.specs.Lists.{EachOf}
use Rattle.record_shapes.specs.Reading.{draft_if}
use Rattle.record_shapes.specs.Tags.{family_tags, person_tags}
use Rattle.import_definitions.specs.Positions.{known, known_before}
use Rattle.imports.specs.Read.{IsLine, PointsWithin}
use Rattle.imports.proofs.Fine.{below_lines}
use Rattle.imports.proofs.Left.{row_is, row_next, row_not}
use Rattle.imports.proofs.Links.{AllNamed, OwnerIs, below_low, named_a, named_both}
use Rattle.imports.proofs.LinksOwned.{citation_named, event_named}
use Rattle.record_shapes.proofs.Each.{each_zip}

-- a line that may stand below a node
abbrev pub IsFit98 : ℕ → Tree Line → Type 0
IsFit98 count t = IsLine 98 t × PointsWithin count t

-- ---- what is owned
module _ (known : Known) (count : ℕ) (o : Record) (holder : OwnerIs a_holder (Some o)) (cited : OwnerIs a_cited
    (Some o))
    (field : Tree Line → Field)
    (tells : (t : Tree Line) → is_same (field t) a_citation ≡ true → is_citation known t ≡ true) where
  one_named : (x : Field) (t : Tree Line) → (is_same x a_citation ≡ true → is_citation known t ≡ true)
      → IsFit98 count t → AllNamed known count (Some o) (forest_of (draft_if known x t))
  one_named an_event t cites h = (
    event_named known count (Some o) t holder h.1
        (each_zip (IsLine 97) (PointsWithin count) (λ u. IsLine 97 u × PointsWithin count u) (λ u a b. (a, b)) (below t)
        (below_lines 97 98 refl t h.0) (below_low known count t h.1)),
    tt,
  )
  one_named a_citation t cites h = (citation_named known count (Some o) t cited h.1 (cites refl), tt)
  one_named _ t cites h = tt

  pub owned_named : (ts : Lines) → EachOf (IsFit98 count) ts → AllNamed known count (Some o)
      (forest_of (flat_map (λ t. draft_if known (field t) t) ts))
  owned_named [] h = tt
  owned_named (t ∷ ts) h = named_both known count (Some o) (draft_if known (field t) t)
      (flat_map (λ t. draft_if known (field t) t) ts) (one_named (field t) t (tells t) h.0) (owned_named ts h.1)

pub person_cites : (known : Known) (t : Tree Line) → is_same (person_field known t) a_citation ≡ true
    → is_citation known t ≡ true
person_cites known t e =
    let side = (tagged (codes "FAMC") t || tagged (codes "FAMS") t) && names_a (codes "FAM") known (value_of t) in
    let fits = is_among person_tags t && is_text t in
    let last : Field = row side a_side (row (is_citation known t) a_citation carried) in
    let sex = tagged (codes "SEX") t && (is_bare t && is_some (sex_of (text_of t))) in
    row_is (is_citation known t) a_citation carried a_citation
    (row_next side a_side (row (is_citation known t) a_citation carried) a_citation
    (row_next fits an_event last a_citation
    (row_next sex a_sex (row fits an_event last) a_citation
    (row_next (tagged (codes "NAME") t && is_text t) a_name (row sex a_sex (row fits an_event last)) a_citation e refl)
    refl) refl) refl) refl

abbrev pub is_member : Known → Tree Line → Bool
is_member known t = (tagged (codes "HUSB") t ||
    (tagged (codes "WIFE") t || tagged (codes "CHIL") t)) && names_a (codes "INDI") known (value_of t)

pub family_cites : (known : Known) (t : Tree Line) → is_same (family_field known t) a_citation ≡ true
    → is_citation known t ≡ true
family_cites known t e =
    let fits = is_among family_tags t && is_text t in
    let last : Field = row (is_citation known t) a_citation carried in
    row_is (is_citation known t) a_citation carried a_citation
    (row_next fits an_event last a_citation
    (row_next (is_member known t) a_member (row fits an_event last) a_citation e refl) refl) refl

pub member_met : (known : Known) (t : Tree Line) → is_same (family_field known t) a_member ≡ true
    → bytes_eq (known.tag (number_of t)) (codes "INDI") ≡ true
member_met known t e =
    let fits = is_among family_tags t && is_text t in
    let last : Field = row (is_citation known t) a_citation carried in
    named_a (codes "INDI") known (value_of t)
    (and_parts (tagged (codes "HUSB") t || (tagged (codes "WIFE") t || tagged (codes "CHIL") t))
    (names_a (codes "INDI") known (value_of t))
    (row_is (is_member known t) a_member (row fits an_event last) a_member e
    (row_not fits an_event last a_member refl (row_not (is_citation known t) a_citation carried a_member refl refl)))).1

pub holding_met : (known : Known) (t : Tree Line) → is_same (source_field known t) a_holding ≡ true
    → bytes_eq (known.tag (number_of t)) (codes "REPO") ≡ true
holding_met known t e =
    let fits = tagged (codes "REPO") t && names_a (codes "REPO") known (value_of t) in
    let publisher = tagged (codes "PUBL") t && is_bare t in
    let author = tagged (codes "AUTH") t && is_bare t in
    let title = tagged (codes "TITL") t && is_bare t in
    let last : Field = row fits a_holding carried in
    named_a (codes "REPO") known (value_of t)
    (and_parts (tagged (codes "REPO") t) (names_a (codes "REPO") known (value_of t))
    (row_is fits a_holding carried a_holding
    (row_next publisher a_publisher last a_holding
    (row_next author an_author (row publisher a_publisher last) a_holding
    (row_next title a_title (row author an_author (row publisher a_publisher last)) a_holding e refl) refl) refl)
    refl)).1

-- the place above one is one
pub parent_met : (rs : Lines) (k : ℕ) (name : List ℕ) (t : Tree Line)
    → is_same (parent_field (known_before rs k) name t) a_parent ≡ true
    → is_above name ((known_before rs k).path (number_of t)) ≡ true
parent_met rs k name t e =
    let above : Bool = is_above name ((known_before rs k).path (number_of t)) in
    let a = and_parts (tagged (codes "_LOC") t) (is_childless t && (not (is_text t) && above))
    (row_is (tagged (codes "_LOC") t && (is_childless t && (not (is_text t) && above))) a_parent carried a_parent e
    refl) in
    (and_parts (not (is_text t)) above (and_parts (is_childless t) (not (is_text t) && above) a.1).1).1
