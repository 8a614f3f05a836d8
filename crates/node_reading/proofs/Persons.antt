-- Persons and families with what they own, one line after the other.
use Rattle.std.specs.Prelude.{
  ◌≡◌,
  ◌&&◌,
  ◌||◌,
  not,
  Bool,
  true,
  false,
  [],
  ◌∷◌,
  ◌++◌,
  map,
  Option,
  Some,
  None,
  codes,
  refl,
}
use Rattle.std.proofs.Common.{ap, sym, ◌∙◌}
use Rattle.stored_lines.specs.Tree.{Tree}
use Rattle.stored_lines.specs.Line.{Line, Lines}
use Rattle.record_fields.specs.Words.{sex_of}
use Rattle.record_kinds.specs.Model as model
use Rattle.record_shapes.specs.declared.field.Field.{Field}
use Rattle.record_shapes.specs.Tags.{person_tags}
use Rattle.record_shapes.specs.Forms.{Known, is_among, is_bare, is_some, is_text, names_a, tagged, text_of, value_of}
use Rattle.record_shapes.specs.Fields.{
  a_citation,
  a_name,
  a_sex,
  a_side,
  an_event,
  carried,
  is_citation,
  is_same,
  person_field,
  row,
}
use Rattle.record_shapes.specs.Picking.{is_left, text_at}
use Rattle.record_shapes.specs.Reading.{name_from, read_by}
use Rattle.node_reading.specs.Partly.{left_with, or_told, unless}
use Rattle.node_reading.specs.Owners.{person_with}
use Rattle.node_reading.proofs.Picked.{
  all_past,
  first_none,
  first_same,
  is_first,
  left_closed,
  left_kept,
  missing_one,
  other_field,
  row_is,
  told_here,
  told_same,
}
use Rattle.list_laws.proofs.Booleans.{or_second, or_first}

-- ---- persons
is_of_person : Field → Bool
is_of_person x = is_left (a_sex ∷ []) x || (is_same x a_name || (is_same x an_event || (is_same x a_side
    || is_same x a_citation)))

person_fields : (known : Known) (t : Tree Line) → is_of_person (person_field known t) ≡ true
unfolding is_of_person
person_fields known t =
    let citation : Bool = is_citation known t in
    let side : Bool = (tagged (codes "FAMC") t || tagged (codes "FAMS") t) && names_a (codes "FAM") known
    (value_of t) in
    let event : Bool = is_among person_tags t && is_text t in
    let sex : Bool = tagged (codes "SEX") t && (is_bare t && is_some (sex_of (text_of t))) in
    row_is (λ x. is_of_person x) (tagged (codes "NAME") t && is_text t) a_name
    (row sex a_sex (row event an_event (row side a_side (row citation a_citation carried)))) refl
    (row_is (λ x. is_of_person x) sex a_sex (row event an_event (row side a_side (row citation a_citation carried)))
    refl
    (row_is (λ x. is_of_person x) event an_event (row side a_side (row citation a_citation carried)) refl
    (row_is (λ x. is_of_person x) side a_side (row citation a_citation carried) refl
    (row_is (λ x. is_of_person x) citation a_citation carried refl refl))))

or_left : (a b c d e : Bool) → (a || (b || (c || (d || e)))) ≡ true → b ≡ false → c ≡ false → d ≡ false → e ≡ false
    → a ≡ true
or_left true b c d e h n m k l = refl
or_left false b c d e h n m k l = absurd (let wrong : true ≡ false = sym h ∙ (λ i. n i || (m i || (k i || l i))) in cc)

-- a sex is known by its word
test_row : (P : Field → Bool) (b : Bool) (x y : Field) → (b ≡ true → P x ≡ true) → P y ≡ true → P (row b x y) ≡ true
test_row P true x y h k = h refl
test_row P false x y h k = k

and_last : (a b c : Bool) → (a && (b && c)) ≡ true → c ≡ true
and_last true true c e = e
and_last true false c e = absurd (let wrong : true ≡ false = sym e in cc)
and_last false b c e = absurd (let wrong : true ≡ false = sym e in cc)

sex_told : (known : Known) (t : Tree Line) → is_same (person_field known t) a_sex ≡ true
    → is_some (sex_of (text_of t)) ≡ true
sex_told known t e =
    let citation : Bool = is_citation known t in
    let side : Bool = (tagged (codes "FAMC") t || tagged (codes "FAMS") t) && names_a (codes "FAM") known
    (value_of t) in
    let event : Bool = is_among person_tags t && is_text t in
    let sex : Bool = tagged (codes "SEX") t && (is_bare t && is_some (sex_of (text_of t))) in
    let P : Field → Bool = λ x. not (is_same x a_sex) || is_some (sex_of (text_of t)) in
    let last : P (row event an_event (row side a_side (row citation a_citation carried))) ≡ true =
    row_is P event an_event (row side a_side (row citation a_citation carried)) refl
    (row_is P side a_side (row citation a_citation carried) refl (row_is P citation a_citation carried refl refl)) in
    let all : P (person_field known t) ≡ true =
    row_is P (tagged (codes "NAME") t && is_text t) a_name
    (row sex a_sex (row event an_event (row side a_side (row citation a_citation carried)))) refl
    (test_row P sex a_sex (row event an_event (row side a_side (row citation a_citation carried)))
    (λ h. and_last (tagged (codes "SEX") t) (is_bare t) (is_some (sex_of (text_of t))) h) last) in
    sym (ap (λ b. not b || is_some (sex_of (text_of t))) e) ∙ all

or_some : {A : Type 0} (o told : Option A) → is_some o ≡ true → or_told o told ≡ o
or_some None told e = absurd (let wrong : true ≡ false = sym e in cc)
or_some (Some a) told e = refl

left_one : (known : Known) (t : Tree Line)
    → (is_same (person_field known t) an_event || is_same (person_field known t) a_citation) ≡ false
    → is_same (person_field known t) a_name ≡ false → is_same (person_field known t) a_side ≡ false
    → is_left (a_sex ∷ []) (person_field known t) ≡ true
unfolding is_of_person
left_one known t owned name side =
    let y : Field = person_field known t in
    or_left (is_left (a_sex ∷ []) y) (is_same y a_name) (is_same y an_event) (is_same y a_side) (is_same y a_citation)
    (person_fields known t) name (or_first (is_same y an_event) (is_same y a_citation) owned) side
    (or_second (is_same y an_event) (is_same y a_citation) owned)

module _ (known : Known) (p : model.Person) (t : Tree Line) where
  pub person_sex : is_first (person_field known t) a_sex p.sex ≡ true → (ts : Lines)
      → person_with known (record { names = p.names; sex = sex_of (text_of t); carried = p.carried }) ts
      ≡ person_with known p (t ∷ ts)
  person_sex h ts =
      let y : Field = person_field known t in
      let here : is_same y a_sex ≡ true = first_same y a_sex p.sex h in
      let name : is_same y a_name ≡ false = other_field y a_sex a_name here refl in
      let told : is_some (sex_of (text_of t)) ≡ true = sex_told known t here in
      (λ i. record {
        names = p.names ++ map name_from (all_past (person_field known) a_name t ts name i);
        sex = (or_some (sex_of (text_of t)) (read_by sex_of (text_at (person_field known) a_sex ts)) told
            ∙ told_here (person_field known) (read_by sex_of) a_sex t ts here) i;
        carried = p.carried ++ (ap (λ o. left_with (person_field known) (a_sex ∷ []) o ts)
            (missing_none (sex_of (text_of t)) told)
            ∙ left_closed (person_field known) (a_sex ∷ []) a_sex [] [] t ts here refl) i;
      }) ∙ ap (λ o. person_with known (record { names = p.names; sex = o; carried = p.carried }) (t ∷ ts))
      (sym (first_none y a_sex p.sex h))
    where
      missing_none : {A : Type 0} (o : Option A) → is_some o ≡ true → unless o a_sex ≡ []
      missing_none None e = absurd (let wrong : true ≡ false = sym e in cc)
      missing_none (Some a) e = refl

  pub person_carried : (is_same (person_field known t) an_event || is_same (person_field known t) a_citation) ≡ false
      → is_same (person_field known t) a_name ≡ false → is_first (person_field known t) a_sex p.sex ≡ false
      → is_same (person_field known t) a_side ≡ false → (ts : Lines)
      → person_with known (record { names = p.names; sex = p.sex; carried = p.carried ++ t ∷ [] }) ts
      ≡ person_with known p (t ∷ ts)
  person_carried owned name sex side ts =
      let y : Field = person_field known t in λ i. record {
        names = p.names ++ map name_from (all_past (person_field known) a_name t ts name i);
        sex = told_same (person_field known) (read_by sex_of) a_sex p.sex t ts sex i;
        carried = left_kept (person_field known) p.carried (a_sex ∷ []) (unless p.sex a_sex) t ts
            (left_one known t owned name side) (missing_one y a_sex p.sex sex) i;
      }
