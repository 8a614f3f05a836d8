-- The lines of a family that name persons are those of its members, and name each once.
use Rattle.std.specs.Prelude.{ℕ, ◌≡◌, ◌==◌, ◌||◌, ◌&&◌, Bool, true, false, List, [], ◌∷◌, ◌++◌, map, codes, Some, refl}
use Rattle.std.specs.List.{list_all}
use Rattle.std.specs.FinMap.{get}
use Rattle.std.proofs.Common.{ap, sym, ◌∙◌, append-nil, subst, eqb}
use Rattle.std.proofs.lemmas.Bool.{eqb-true}
use Rattle.std.proofs.lemmas.List.{map-append}
use Rattle.std.proofs.lemmas.List.Elements.{filter-append}
use Rattle.stored_lines.specs.Tree.{Tree, node, forest_of, list_of, relabel}
use Rattle.stored_lines.specs.Line.{Line, Lines}
use Rattle.stored_lines.specs.declared.carried.Value.TheVariants as value
use Rattle.stored_lines.proofs.Back.{list_of_forest_of}
use Rattle.record_kinds.specs.Model as model
use Rattle.record_kinds.specs.declared.record.Record.{Record}
use Rattle.record_kinds.specs.declared.record.Record.TheVariants as kind
use Rattle.record_fields.specs.declared.words.Partnership.{Partnership}
use Rattle.record_fields.specs.declared.words.Partnership.TheVariants as partnership
use Rattle.record_shapes.specs.declared.field.Field.{Field}
use Rattle.record_shapes.specs.Fields.{a_citation, a_member, an_event, carried, family_field, is_citation, is_same, row}
use Rattle.record_shapes.specs.Forms.{Known, below, is_among, is_text, number_of, tagged}
use Rattle.record_shapes.specs.Lists.{EachOf, IsOnce}
use Rattle.record_shapes.specs.Members.{members}
use Rattle.record_shapes.specs.Picking.{all_of}
use Rattle.record_shapes.specs.Readable.{IsKnown, IsReadableFamily}
use Rattle.record_shapes.specs.Shapes.{
  Around,
  child_line,
  citation_line,
  citation_lines,
  event_lines,
  events_below,
  family_lines,
  line,
  partner_line,
  partner_tag,
  pointer_line,
}
use Rattle.record_shapes.specs.Tags.{family_tags}
use Rattle.record_shapes.specs.Untaken.{AreUntaken, family_leaves}
use Rattle.archive_state.specs.Content.{Content, Records}
use Rattle.archive_state.specs.Known.{known_of}
use Rattle.archive_state.specs.Merging.{line_with, lines_with}
use Rattle.archive_state.specs.Sound.{IsSound}
use Rattle.import_definitions.specs.Positions.{known}
use Rattle.gedcom_export.specs.Around.{around}
use Rattle.round_trip.specs.Positions.{nodes_by_position}
use Rattle.round_trip.proofs.Listed.{filter_all}
use Rattle.round_trip.proofs.Nodes.{node_tree, owns, pos}
use Rattle.round_trip.proofs.Renamed.{list_relabelled}
use Rattle.round_trip.proofs.Alike.{all_alike, family_alike}
use Rattle.round_trip.proofs.Inverse.{persons_apart}
use Rattle.round_trip.proofs.Readable.{ReadsSound, filter_none, shaped}
use Rattle.round_trip.proofs.Seen.{tags_back}
use Rattle.round_trip.proofs.Judged.{numbers}
use Rattle.record_shapes.proofs.Each.{each_back, each_both, each_front, each_more, has}
use Rattle.list_laws.proofs.Booleans.{both_true, neither, true_not_false}
use Rattle.list_laws.proofs.Numbers.{same_self}

-- ---- numbers mapped
pub none_mapped : (f : ℕ → ℕ) (n : ℕ) (ks : List ℕ) → ((i : ℕ) → f i ≡ f n → i ≡ n) → has n ks ≡ false
    → has (f n) (map f ks) ≡ false
none_mapped f n [] apart h = refl
none_mapped f n (k ∷ ks) apart h =
    let both : ((k == n) ≡ false) × (has n ks ≡ false) = neither (k == n) (has n ks) h in
    elim (eqb (f k) (f n)) as (λ b. eqb (f k) (f n) ≡ b → (b || has (f n) (map f ks)) ≡ false) [
      | true ↦ λ i. absurd
          (true_not_false (sym (ap (λ q. q == n) (apart k (eqb-true (f k) (f n) i)) ∙ same_self n) ∙ both.0))
      | false ↦ λ i. none_mapped f n ks apart both.1
    ] refl

pub once_mapped : (f : ℕ → ℕ) (ks : List ℕ) → EachOf (λ n. (i : ℕ) → f i ≡ f n → i ≡ n) ks → IsOnce ks
    → IsOnce (map f ks)
once_mapped f [] h o = tt
once_mapped f (k ∷ ks) h o = (none_mapped f k ks h.0 o.0, once_mapped f ks h.1 o.1)

-- ---- which lines of a family name members
abbrev Names : Known → Tree Line → Type 0
Names k t = is_same (family_field k t) a_member ≡ true

abbrev NamesNone : Known → Tree Line → Type 0
NamesNone k t = is_same (family_field k t) a_member ≡ false

rows_no : (b d e : Bool) → is_same (row (b && false) a_member (row d an_event (row e a_citation carried))) a_member
    ≡ false
rows_no true true e = refl
rows_no true false true = refl
rows_no true false false = refl
rows_no false true e = refl
rows_no false false true = refl
rows_no false false false = refl

text_no : (k : Known) (tag v : List ℕ) (under : Lines) → NamesNone k (line tag (value.Text v) under)
text_no k tag v under =
    let t : Tree Line = line tag (value.Text v) under in
    rows_no (tagged (codes "HUSB") t || (tagged (codes "WIFE") t || tagged (codes "CHIL") t))
    (is_among family_tags t && is_text t) (is_citation k t)

citation_no : (k : Known) (c : model.Citation) → NamesNone k (citation_line c)
citation_no k c = by (is_citation k (citation_line c))
  where
    by : (b : Bool) → is_same (row b a_citation carried) a_member ≡ false
    by true = refl
    by false = refl

leaves_no : (y : Field) → family_leaves y ≡ true → is_same y a_member ≡ false
leaves_no carried h = refl
leaves_no _ h = absurd (true_not_false (sym h))

carried_no : (k : Known) (ts : Lines) → AreUntaken (family_field k) (λ x. family_leaves x) ts → EachOf (NamesNone k) ts
carried_no k [] h = tt
carried_no k (t ∷ ts) h =
    let both = both_true (family_leaves (family_field k t)) (list_all (λ u. family_leaves (family_field k u)) ts) h in
    (leaves_no (family_field k t) both.0, carried_no k ts both.1)

events_no : (k : Known) (a : Around) (ts : List (Tree Record)) → EachOf (NamesNone k) (events_below a ts)
events_no k a [] = tt
events_no k a (node (kind.Event e) f ∷ ts) = (text_no k e.tag e.value (event_lines a e (list_of f)), events_no k a ts)
events_no k a (node _ f ∷ ts) = events_no k a ts

citations_no : (k : Known) (ts : List (Tree Record)) → EachOf (NamesNone k) (citation_lines ts)
citations_no k [] = tt
citations_no k (node (kind.Citation c) f ∷ ts) = (citation_no k c, citations_no k ts)
citations_no k (node _ f ∷ ts) = citations_no k ts

partner_yes : (k : Known) (q : Partnership) (n : ℕ) (under : Lines) → IsKnown (codes "INDI") k n
    → Names k (pointer_line (partner_tag q) n under)
partner_yes k partnership.Husband n under h = rw h
partner_yes k partnership.Wife n under h = rw h

partners_yes : (k : Known) (ps : List model.Partner)
    → EachOf (IsKnown (codes "INDI") k) (map (λ (p : model.Partner). p.person) ps)
    → EachOf (Names k) (map partner_line ps)
partners_yes k [] h = tt
partners_yes k (p ∷ ps) h = (partner_yes k p.partnership p.person p.carried h.0, partners_yes k ps h.1)

child_yes : (k : Known) (n : ℕ) (under : Lines) → IsKnown (codes "INDI") k n
    → Names k (pointer_line (codes "CHIL") n under)
child_yes k n under h = rw h

children_yes : (k : Known) (cs : List model.Child)
    → EachOf (IsKnown (codes "INDI") k) (map (λ (c : model.Child). c.person) cs) → EachOf (Names k) (map child_line cs)
children_yes k [] h = tt
children_yes k (c ∷ cs) h = (child_yes k c.person c.carried h.0, children_yes k cs h.1)

-- those of its members
member_lines : (k : Known) (a : Around) (x : model.Family) (under : List (Tree Record)) → IsReadableFamily k a x under
    → all_of (family_field k) a_member (family_lines a x under)
    ≡ map partner_line x.partners ++ map child_line x.children
member_lines k a x under h =
    let test : Tree Line → Bool = λ t. is_same (family_field k t) a_member in
    let ps = map partner_line x.partners in
    let cs = map child_line x.children in
    let es = events_below a under in
    let ss = citation_lines under in
    let some = map (λ (p : model.Partner). p.person) x.partners in
    let others = map (λ (p : model.Child). p.person) x.children in
    filter-append test ps (cs ++ (es ++ (ss ++ x.carried)))
    ∙ (λ i. filter_all test ps (partners_yes k x.partners (each_front (IsKnown (codes "INDI") k) some others h.persons))
    i
    ++ (filter-append test cs (es ++ (ss ++ x.carried))
    ∙ (λ j. filter_all test cs
    (children_yes k x.children (each_back (IsKnown (codes "INDI") k) some others h.persons)) j
    ++ filter_none test (es ++ (ss ++ x.carried))
    (each_both (NamesNone k) es (ss ++ x.carried) (events_no k a under)
    (each_both (NamesNone k) ss x.carried (citations_no k under) (carried_no k x.carried h.untaken))) j)
    ∙ append-nil cs) i)

-- ---- in an export
module _ (c : Content) (is : IsSound c) (reads : ReadsSound) where
  abbrev m : Records
  m = c.records

  abbrev rs : Lines
  rs = nodes_by_position m

  partner_numbers : (ps : List model.Partner) → map number_of (lines_with (pos m) (map partner_line ps))
      ≡ map (pos m) (map (λ (p : model.Partner). p.person) ps)
  partner_numbers [] = refl
  partner_numbers (p ∷ ps) = ap (λ ks. pos m p.person ∷ ks) (partner_numbers ps)

  child_numbers : (ps : List model.Child) → map number_of (lines_with (pos m) (map child_line ps))
      ≡ map (pos m) (map (λ (p : model.Child). p.person) ps)
  child_numbers [] = refl
  child_numbers (p ∷ ps) = ap (λ ks. pos m p.person ∷ ks) (child_numbers ps)

  module _ (k : ℕ) (x : model.Family) (g : get m k ≡ Some (kind.Family x)) where
    readable : IsReadableFamily (known_of m) (around m) x (owns m k)
    readable = shaped c is reads (k, kind.Family x) (g, refl)

    lines_are : below (node_tree m (k, kind.Family x)) ≡ lines_with (pos m) (family_lines (around m) x (owns m k))
    lines_are = list_relabelled (line_with (pos m)) (forest_of (family_lines (around m) x (owns m k)))
        ∙ ap (lines_with (pos m)) (list_of_forest_of (family_lines (around m) x (owns m k)))

    numbers_are : numbers (known rs) (below (node_tree m (k, kind.Family x))) ≡ map (pos m) (members x)
    numbers_are =
        let some = map (λ (p : model.Partner). p.person) x.partners in
        let others = map (λ (p : model.Child). p.person) x.children in
        ap (numbers (known rs)) lines_are
        ∙ ap (map number_of)
        (all_alike (pos m) (family_field (known_of m)) (family_field (known rs)) a_member
        (family_lines (around m) x (owns m k)) (family_alike (pos m) (known_of m) (known rs) (tags_back m))
        ∙ ap (lines_with (pos m)) (member_lines (known_of m) (around m) x (owns m k) readable)
        ∙ map-append (relabel (line_with (pos m))) (map partner_line x.partners) (map child_line x.children))
        ∙ map-append number_of (lines_with (pos m) (map partner_line x.partners))
        (lines_with (pos m) (map child_line x.children))
        ∙ (λ i. partner_numbers x.partners i ++ child_numbers x.children i)
        ∙ sym (map-append (pos m) some others)

    pub members_once : IsOnce (numbers (known rs) (below (node_tree m (k, kind.Family x))))
    members_once = subst IsOnce (sym numbers_are)
        (once_mapped (pos m) (members x)
        (each_more (IsKnown (codes "INDI") (known_of m)) (λ n. (i : ℕ) → pos m i ≡ pos m n → i ≡ n)
        (persons_apart m) (members x) readable.persons) readable.once)
