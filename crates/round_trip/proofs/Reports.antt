-- Nothing is reported of an export.
use Rattle.std.specs.Prelude.{
  ℕ,
  ◌≡◌,
  ◌+◌,
  Bool,
  true,
  false,
  cond,
  List,
  [],
  ◌∷◌,
  ◌++◌,
  map,
  length,
  codes,
  Some,
  option_map,
  bytes_eq,
  refl,
}
use Rattle.std.specs.FinMap.{get}
use Rattle.std.proofs.Common.{ap, sym, ◌∙◌, append_assoc, length-append, subst, arith}
use Rattle.stored_lines.specs.Tree.{Tree, node, children, list_of}
use Rattle.stored_lines.specs.Line.{Line, Lines}
use Rattle.record_kinds.specs.Model as model
use Rattle.record_kinds.specs.declared.record.Record.TheVariants as kind
use Rattle.record_fields.specs.Bytes.{bytes_are}
use Rattle.record_shapes.specs.Entries.{below_on}
use Rattle.record_shapes.specs.Fields.{a_side, person_field}
use Rattle.record_shapes.specs.Forms.{below, tagged}
use Rattle.record_shapes.specs.Lists.{EachOf}
use Rattle.record_shapes.specs.Picking.{all_of}
use Rattle.archive_state.specs.Content.{Content, Records}
use Rattle.archive_state.specs.Sound.{IsSound}
use Rattle.gedcom_tree.specs.Forest.{Item}
use Rattle.gedcom_tree.specs.Text.{IsSame}
use Rattle.import_definitions.specs.Kinds.{is_other, kind_named}
use Rattle.import_definitions.specs.Nodes.{FileNode}
use Rattle.import_definitions.specs.Roots.{candidates, kept}
use Rattle.import_definitions.specs.Lines.{Lined, lined_roots, roots, unlined}
use Rattle.import_definitions.specs.Positions.{known}
use Rattle.import_definitions.specs.Report.{
  in_order,
  judge_member,
  judge_side,
  judged,
  report,
  said_of_family,
  said_of_members,
  said_of_person,
  said_of_persons,
}
use Rattle.gedcom_export.specs.Forest.{exported}
use Rattle.gedcom_export.specs.Order.{Numbered}
use Rattle.round_trip.specs.Positions.{nodes_by_position}
use Rattle.round_trip.proofs.Found.{other_kind, roots_are}
use Rattle.round_trip.proofs.Nodes.{node_tree, nodes_are, pos}
use Rattle.round_trip.proofs.Ordered.{order, order_stands, StandsAt0}
use Rattle.round_trip.proofs.Renamed.{list_relabelled}
use Rattle.round_trip.proofs.Drafts.{Laws, position_here}
use Rattle.round_trip.proofs.Inverse.{flat_none}
use Rattle.round_trip.proofs.Seen.{at_node, if_level_0}
use Rattle.round_trip.proofs.Sides.{side_lines}
use Rattle.round_trip.specs.SameLaws.{ReportsNothing}
use Rattle.round_trip.proofs.Judged.{AreSided, NoneJudged, family_judged, none_judged, sides_in, sides_judged}
use Rattle.round_trip.proofs.Members.{members_once}
use Rattle.round_trip.proofs.PersonSides.{person_sided}
use Rattle.round_trip.proofs.Unreported.{no_lines_said, no_roots_said}
use Rattle.record_shapes.proofs.Each.{each_more, each_mapped, each_under}
use Rattle.list_laws.proofs.Booleans.{true_not_false}

-- ---- lists, each element with its position
abbrev EachFrom : {A : Type 0} → (ℕ → A → Type 0) → ℕ → List A → Type 0
EachFrom P i [] = Unit {0}
EachFrom P i (x ∷ xs) = P i x × EachFrom P (i + 1) xs

each_from_under : {A B : Type 0} (P : ℕ → B → Type 0) (f : A → B) (i : ℕ) (xs : List A) → EachFrom P i (map f xs)
    → EachFrom (λ j x. P j (f x)) i xs
each_from_under P f i [] h = tt
each_from_under P f i (x ∷ xs) h = (h.0, each_from_under P f (i + 1) xs h.1)

-- ---- what is said of nodes, by their lines without numbers
lines_below : (t : Tree Lined) → map unlined (list_of (children t)) ≡ below (unlined t)
lines_below (node l f) = sym (list_relabelled (λ (x : Lined). x.1) f)

abbrev FineFamily : Lines → Tree Line → Type 0
FineFamily rs r = tagged (codes "FAM") r ≡ true → NoneJudged (judge_member (known rs)) [] (below r)

abbrev FinePerson : Lines → ℕ → Tree Line → Type 0
FinePerson rs i r = tagged (codes "INDI") r ≡ true → NoneJudged (judge_side rs i) [] (below r)

family_unsaid : (rs : Lines) (t : Tree Lined) → FineFamily rs (unlined t) → said_of_family rs t ≡ []
family_unsaid rs t h = by (tagged (codes "FAM") (unlined t)) refl
  where
    by : (b : Bool) → tagged (codes "FAM") (unlined t) ≡ b
        → cond b (judged (judge_member (known rs)) [] (list_of (children t))) [] ≡ []
    by false e = refl
    by true e = none_judged (judge_member (known rs)) [] (list_of (children t))
        (subst (NoneJudged (judge_member (known rs)) []) (sym (lines_below t)) (h e))

person_unsaid : (rs : Lines) (i : ℕ) (t : Tree Lined) → FinePerson rs i (unlined t) → said_of_person rs i t ≡ []
person_unsaid rs i t h = by (tagged (codes "INDI") (unlined t)) refl
  where
    by : (b : Bool) → tagged (codes "INDI") (unlined t) ≡ b
        → cond b (judged (judge_side rs i) [] (list_of (children t))) [] ≡ []
    by false e = refl
    by true e = none_judged (judge_side rs i) [] (list_of (children t))
        (subst (NoneJudged (judge_side rs i) []) (sym (lines_below t)) (h e))

persons_unsaid : (rs : Lines) (i : ℕ) (ts : List (Tree Lined)) → EachFrom (λ j t. FinePerson rs j (unlined t)) i ts
    → said_of_persons rs i ts ≡ []
persons_unsaid rs i [] h = refl
persons_unsaid rs i (t ∷ ts) h = λ z. person_unsaid rs i t h.0 z ++ persons_unsaid rs (i + 1) ts h.1 z

members_unsaid : (rs : Lines) (ts : List (Tree Lined)) → map unlined ts ≡ rs → EachOf (FineFamily rs) rs
    → EachFrom (FinePerson rs) 0 rs → said_of_members rs ts ≡ []
members_unsaid rs ts e f p =
    (λ i. flat_none (said_of_family rs) ts
    (each_more (λ t. FineFamily rs (unlined t)) (λ t. said_of_family rs t ≡ []) (family_unsaid rs) ts
    (each_under (FineFamily rs) unlined ts (subst (EachOf (FineFamily rs)) (sym e) f))) i
    ++ persons_unsaid rs 0 ts
    (each_from_under (FinePerson rs) unlined 0 ts (subst (EachFrom (FinePerson rs) 0) (sym e) p)) i)

module _ (c : Content) (is : IsSound c) (laws : Laws) where
  abbrev m : Records
  m = c.records

  abbrev rs : Lines
  rs = nodes_by_position m

  -- a record of no other kind has no tag of one of five
  other_tag : (word : List ℕ) → is_other (kind_named word) ≡ false → (k : ℕ) (o : model.Other)
      → get m k ≡ Some (kind.Other o) → bytes_eq o.tag word ≡ false
  other_tag word h k o g = by (bytes_eq o.tag word) refl
    where
      by : (b : Bool) → bytes_eq o.tag word ≡ b → b ≡ false
      by false e = refl
      by true e = absurd (true_not_false (sym (other_kind c is k o g)
          ∙ ap (λ t. is_other (kind_named t)) (bytes_are o.tag word e) ∙ h))

  fine_family : (e : Numbered) → StandsAt0 m e → FineFamily rs (node_tree m e)
  fine_family (k, kind.Family x) st t = family_judged (known rs) (below (node_tree m (k, kind.Family x)))
      (members_once c is laws.reads k x st.0)
  fine_family (k, kind.Other x) st t = absurd (true_not_false (sym t ∙ other_tag (codes "FAM") refl k x st.0))
  fine_family (k, kind.Event x) st t = absurd (true_not_false (sym st.1))
  fine_family (k, kind.Citation x) st t = absurd (true_not_false (sym st.1))
  fine_family (k, kind.Place x) st t = absurd (true_not_false (sym t))
  fine_family (k, kind.Repo x) st t = absurd (true_not_false (sym t))
  fine_family (k, kind.Source x) st t = absurd (true_not_false (sym t))
  fine_family (k, kind.Person x) st t = absurd (true_not_false (sym t))
  fine_family (k, kind.Entry x) st t = absurd (true_not_false (sym t))

  families_fine : EachOf (FineFamily rs) rs
  families_fine = subst (EachOf (FineFamily rs)) (sym (nodes_are m))
      (each_mapped (FineFamily rs) (node_tree m) (order m)
      (each_more (StandsAt0 m) (λ e. FineFamily rs (node_tree m e)) fine_family (order m) (order_stands m)))

  sides_of : (k : ℕ) (x : model.Person) → get m k ≡ Some (kind.Person x)
      → AreSided rs (pos m k) [] (sides_in rs (pos m k) (below (node_tree m (k, kind.Person x))))
  sides_of k x g = subst (AreSided rs (pos m k) [])
      (sym (side_lines c is laws.reads laws.families k x g)
      ∙ ap (λ o. all_of (person_field (known rs)) a_side (below_on o))
      (at_node m k ∙ ap (λ o. option_map (node_tree m) (if_level_0 m k o)) g))
      (person_sided c is laws k x g)

  fine_person : (e : Numbered) → StandsAt0 m e → FinePerson rs (pos m e.0) (node_tree m e)
  fine_person (k, kind.Person x) st t = sides_judged rs (pos m k) [] (below (node_tree m (k, kind.Person x)))
      (sides_of k x st.0)
  fine_person (k, kind.Other x) st t = absurd (true_not_false (sym t ∙ other_tag (codes "INDI") refl k x st.0))
  fine_person (k, kind.Event x) st t = absurd (true_not_false (sym st.1))
  fine_person (k, kind.Citation x) st t = absurd (true_not_false (sym st.1))
  fine_person (k, kind.Place x) st t = absurd (true_not_false (sym t))
  fine_person (k, kind.Repo x) st t = absurd (true_not_false (sym t))
  fine_person (k, kind.Source x) st t = absurd (true_not_false (sym t))
  fine_person (k, kind.Family x) st t = absurd (true_not_false (sym t))
  fine_person (k, kind.Entry x) st t = absurd (true_not_false (sym t))

  walk : (i : ℕ) (done rest : List Numbered) → done ++ rest ≡ order m → i ≡ length done → EachOf (StandsAt0 m) rest
      → EachFrom (FinePerson rs) i (map (node_tree m) rest)
  walk i done [] all l st = tt
  walk i done (e ∷ rest) all l st =
      let longer : length (done ++ e ∷ []) ≡ length done + 1 = length-append done (e ∷ []) in
      let next : i + 1 ≡ length (done ++ e ∷ []) = omega arith in (
        subst (λ j. FinePerson rs j (node_tree m e)) (sym (l ∙ position_here c is laws done rest e all))
            (fine_person e st.0),
        walk (i + 1) (done ++ e ∷ []) rest (append_assoc done (e ∷ []) rest ∙ all) next st.1,
      )

  persons_fine : EachFrom (FinePerson rs) 0 rs
  persons_fine = subst (EachFrom (FinePerson rs) 0) (sym (nodes_are m)) (walk 0 [] (order m) refl refl (order_stands m))

  module _ (society : List ℕ) (f : List Item) (e : IsSame f (exported m society)) where
    abbrev ks : List FileNode
    ks = kept (candidates f)

    lined_are : map unlined (lined_roots ks) ≡ rs
    unfolding roots
    lined_are = roots_are c is society f e

    pub report_none : report f ≡ []
    unfolding report
    report_none =
        (λ i. in_order (no_roots_said c is society f e i
        ++ (said_of_members (roots_are c is society f e i) (lined_roots ks) ++ no_lines_said c is society f e i)))
        ∙ (λ i. in_order (members_unsaid rs (lined_roots ks) lined_are families_fine persons_fine i ++ []))

pub reports_nothing : Laws → ReportsNothing
reports_nothing laws c society f is e = report_none c is laws society f e
