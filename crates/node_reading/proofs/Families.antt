-- Families read from their lines, one line after the other.
use Rattle.std.specs.Prelude.{
  ℕ,
  ◌≡◌,
  ◌&&◌,
  ◌||◌,
  ◌==◌,
  not,
  cond,
  Bool,
  true,
  false,
  List,
  [],
  ◌∷◌,
  ◌++◌,
  map,
  codes,
  if◌then◌else◌,
  refl,
  Result,
  Ok,
  Err,
  IfOk,
  OnOk,
}
use Rattle.std.specs.List.{filter, list_any}
use Rattle.std.proofs.Common.{ap, sym, ◌∙◌, append_assoc}
use Rattle.stored_lines.specs.Tree.{Tree}
use Rattle.stored_lines.specs.Line.{Line, Lines}
use Rattle.record_kinds.specs.Model as model
use Rattle.record_shapes.specs.declared.field.Field.{Field}
use Rattle.record_shapes.specs.Tags.{family_tags}
use Rattle.record_shapes.specs.Forms.{Known, is_among, is_text, names_a, number_of, tagged, value_of}
use Rattle.record_shapes.specs.Fields.{a_citation, a_member, an_event, carried, family_field, is_citation, is_same, row}
use Rattle.record_shapes.specs.Picking.{all_of, is_left}
use Rattle.record_shapes.specs.Reading.{child_from, family_from, is_child_line, once_behind, partner_from}
use Rattle.node_reading.specs.Partly.{left_with}
use Rattle.node_reading.specs.Owners.{family_with, joined_by, once_of}
use Rattle.node_reading.proofs.Picked.{all_here, all_past, left_gone, left_kept, other_field, row_is}
use Rattle.list_laws.proofs.Booleans.{or_first, or_second}

-- ---- numbers that were seen
once_is : (P : ℕ → Bool) (seen : List ℕ) → ((n : ℕ) → P n ≡ list_any (λ m. m == n) seen) → (ts : Lines)
    → once_of P ts ≡ once_behind seen ts
once_is P seen h [] = refl
once_is P seen h (t ∷ ts) =
    λ i. if h (number_of t) i then once_is P seen h ts i
    else t ∷ once_is (λ n. number_of t == n || P n) (number_of t ∷ seen) (λ n. ap (λ b. number_of t == n || b) (h n)) ts
    i

-- none was seen yet
pub family_begun : (known : Known) (P : ℕ → Bool) (ts : Lines) → ((n : ℕ) → P n ≡ false)
    → family_with known P (record { partners = []; children = []; carried = [] }) ts ≡ family_from known ts
family_begun known P ts h =
    let all : Lines = all_of (family_field known) a_member ts in
    ap (λ us. record {
      partners = map partner_from (filter (λ t. not (is_child_line t)) us);
      children = map child_from (filter is_child_line us);
      carried = left_with (family_field known) [] [] ts;
    }) (once_is P [] h all)

-- ---- fields
is_of_family : Field → Bool
is_of_family x = is_left [] x || (is_same x a_member || (is_same x an_event || is_same x a_citation))

family_fields : (known : Known) (t : Tree Line) → is_of_family (family_field known t) ≡ true
unfolding is_of_family
family_fields known t =
    let citation : Bool = is_citation known t in
    let event : Bool = is_among family_tags t && is_text t in
    row_is (λ x. is_of_family x) ((tagged (codes "HUSB") t ||
    (tagged (codes "WIFE") t || tagged (codes "CHIL") t)) && names_a (codes "INDI") known (value_of t)) a_member
    (row event an_event (row citation a_citation carried)) refl
    (row_is (λ x. is_of_family x) event an_event (row citation a_citation carried) refl
    (row_is (λ x. is_of_family x) citation a_citation carried refl refl))

or_left : (a b c d : Bool) → (a || (b || (c || d))) ≡ true → b ≡ false → c ≡ false → d ≡ false → a ≡ true
or_left true b c d h n m k = refl
or_left false b c d h n m k = absurd (let wrong : true ≡ false = sym h ∙ (λ i. n i || (m i || k i)) in cc)

left_one : (known : Known) (t : Tree Line)
    → (is_same (family_field known t) an_event || is_same (family_field known t) a_citation) ≡ false
    → is_same (family_field known t) a_member ≡ false → is_left [] (family_field known t) ≡ true
unfolding is_of_family
left_one known t owned member =
    let y : Field = family_field known t in
    or_left (is_left [] y) (is_same y a_member) (is_same y an_event) (is_same y a_citation) (family_fields known t)
    member
    (or_first (is_same y an_event) (is_same y a_citation) owned)
    (or_second (is_same y an_event) (is_same y a_citation) owned)

module _ (known : Known) (P : ℕ → Bool) (f : model.Family) (t : Tree Line) where
  -- a line that is not carried
  gone : (x : Field) → is_same (family_field known t) x ≡ true → is_same x carried ≡ false → (ts : Lines)
      → left_with (family_field known) [] [] ts ≡ left_with (family_field known) [] [] (t ∷ ts)
  gone x here c ts = left_gone (family_field known) [] [] t ts
      (λ i. other_field (family_field known t) x carried here c i || false) refl

  pub family_carried : (is_same (family_field known t) an_event || is_same (family_field known t) a_citation) ≡ false
      → is_same (family_field known t) a_member ≡ false → (ts : Lines)
      → family_with known P (record { partners = f.partners; children = f.children; carried = f.carried ++ t ∷ [] }) ts
      ≡ family_with known P f (t ∷ ts)
  family_carried owned member ts = λ i. record {
    partners = f.partners ++ map partner_from (filter (λ u. not (is_child_line u))
        (once_of P (all_past (family_field known) a_member t ts member i)));
    children = f.children ++ map child_from (filter is_child_line
        (once_of P (all_past (family_field known) a_member t ts member i)));
    carried = left_kept (family_field known) f.carried [] [] t ts (left_one known t owned member) refl i;
  }

  anew : (Q : ℕ → Bool) → ((n : ℕ) → Q n ≡ (number_of t == n || P n)) → is_same (family_field known t) a_member ≡ true
      → P (number_of t) ≡ false → (ts : Lines)
      → t ∷ once_of Q (all_of (family_field known) a_member ts)
      ≡ once_of P (all_of (family_field known) a_member (t ∷ ts))
  anew Q same here seen ts =
      let all : Lines = all_of (family_field known) a_member ts in
      ap (λ (R : ℕ → Bool). t ∷ once_of R all) (λ i n. same n i)
      ∙ ap (λ (b : Bool). if b then once_of P all else t ∷ once_of (λ n. number_of t == n || P n) all) (sym seen)
      ∙ ap (once_of P) (all_here (family_field known) a_member t ts here)

  -- the family with those of further lines
  abbrev rest_of : model.Family → Lines → Lines → model.Family
  rest_of g os left = record {
    partners = g.partners ++ map partner_from (filter (λ u. not (is_child_line u)) os);
    children = g.children ++ map child_from (filter is_child_line os);
    carried = g.carried ++ left;
  }

  abbrev with_child : model.Family
  with_child = record { partners = f.partners; children = f.children ++ child_from t ∷ []; carried = f.carried }

  abbrev with_partner : model.Family
  with_partner = record { partners = f.partners ++ partner_from t ∷ []; children = f.children; carried = f.carried }

  -- the person of a line joins those of the lines after it
  joins : (b : Bool) → is_child_line t ≡ b → (os left : Lines)
      → rest_of (if b then with_child else with_partner) os left ≡ rest_of f (t ∷ os) left
  joins true e os left = λ i. record {
    partners = f.partners ++ map partner_from (cond (not (sym e i)) (t ∷ filter (λ u. not (is_child_line u)) os)
        (filter (λ u. not (is_child_line u)) os));
    children = (append_assoc f.children (child_from t ∷ []) (map child_from (filter is_child_line os))
        ∙ ap (λ (b : Bool). f.children ++ map child_from
        (cond b (t ∷ filter is_child_line os) (filter is_child_line os)))
        (sym e)) i;
    carried = f.carried ++ left;
  }
  joins false e os left = λ i. record {
    partners = (append_assoc f.partners (partner_from t ∷ [])
        (map partner_from (filter (λ u. not (is_child_line u)) os))
        ∙ ap (λ (b : Bool). f.partners ++ map partner_from (cond (not b) (t ∷ filter (λ u. not (is_child_line u)) os)
        (filter (λ u. not (is_child_line u)) os))) (sym e)) i;
    children = f.children ++ map child_from (cond (sym e i) (t ∷ filter is_child_line os) (filter is_child_line os));
    carried = f.carried ++ left;
  }

  pub family_joined : (Q : ℕ → Bool) → ((n : ℕ) → Q n ≡ (number_of t == n || P n))
      → is_same (family_field known t) a_member ≡ true → P (number_of t) ≡ false → (ts : Lines)
      → family_with known Q (joined_by f t) ts ≡ family_with known P f (t ∷ ts)
  family_joined Q same here seen ts =
      joins (is_child_line t) refl (once_of Q (all_of (family_field known) a_member ts))
      (left_with (family_field known) [] [] ts)
      ∙ (λ i. record {
        partners = f.partners ++ map partner_from (filter (λ u. not (is_child_line u)) (anew Q same here seen ts i));
        children = f.children ++ map child_from (filter is_child_line (anew Q same here seen ts i));
        carried = f.carried ++ gone a_member here refl ts i;
      })

-- ---- answers

pub ok_then : {A E : Type 0} {P Q : Type 0} (r : Result A E) → OnOk r Q → (Q → P) → IfOk r (λ x. P)
ok_then (Ok a) q f = f q
ok_then (Err e) q f = tt
