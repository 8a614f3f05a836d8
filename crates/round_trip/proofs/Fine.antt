-- The nodes of an export have tags and texts that a forest may have, and room.
use Rattle.std.specs.Prelude.{
  ℕ,
  ◌≡◌,
  ◌≤◌,
  true,
  List,
  [],
  ◌∷◌,
  ◌++◌,
  map,
  codes,
  Option,
  Some,
  None,
  option_map,
  refl,
  decimal,
}
use Rattle.std.specs.List.{flat_map}
use Rattle.std.specs.FinMap.{get, entries}
use Rattle.std.proofs.Common.{ap, sym, arith}
use Rattle.stored_lines.specs.Tree.{Tree, children, label}
use Rattle.stored_lines.specs.Line.{Line, Lines}
use Rattle.stored_lines.specs.Levels.{forest_levels}
use Rattle.stored_lines.specs.declared.carried.Value.{Value}
use Rattle.stored_lines.specs.declared.carried.Value.TheVariants as value
use Rattle.record_kinds.specs.Model as model
use Rattle.record_kinds.specs.declared.record.Record.TheVariants as kind
use Rattle.record_fields.specs.Dated.{date_text}
use Rattle.record_fields.specs.Words.{entry_kind_word, sex_word}
use Rattle.record_text.specs.Text.{IsText}
use Rattle.record_shapes.specs.Levels.{room_below}
use Rattle.record_shapes.specs.Lists.{EachOf}
use Rattle.record_shapes.specs.Shapes.{
  Around,
  child_line,
  citation_lines,
  entry_lines,
  entry_place_lines,
  events_below,
  family_lines,
  holding_line,
  line,
  loc_lines,
  name_line,
  partner_line,
  person_lines,
  place_lines,
  pointer_line,
  repo_lines,
  side_line,
  source_lines,
  text_lines,
}
use Rattle.archive_state.specs.Content.{Content, Records}
use Rattle.archive_state.specs.Sound.{IsSound}
use Rattle.archive_state.specs.Texts.{date_texts, mention_texts, there, value_texts}
use Rattle.gedcom_export.specs.Around.{around, child_sides, partner_sides}
use Rattle.gedcom_export.specs.Order.{Numbered}
use Rattle.round_trip.proofs.Entries.{entries_stand, Stands}
use Rattle.round_trip.proofs.Nodes.{lines_of, owns}
use Rattle.round_trip.proofs.Ordered.{StandsAt0}
use Rattle.round_trip.proofs.Fitting.{
  AllFit,
  AreGood,
  Fits,
  IsGood,
  IsGoodLine,
  IsGoodValue,
  all_good,
  all_low,
  fits_line,
  fits_loc,
  fits_locs,
  fits_pointer,
  fits_text,
  fits_texts,
  fits_within,
  good_tag,
  is_good_tag,
}
use Rattle.round_trip.proofs.Plain.{decimal_text, kind_text, path_text, plain_text}
use Rattle.round_trip.proofs.Records.{
  all_own,
  date_fits,
  events_fit,
  good_carried,
  own_citations_fit,
  sex_fits,
  texts,
}
use Rattle.round_trip.proofs.Parts.{
  SideFits,
  children_fit,
  children_sides,
  holdings_fit,
  mentions_fit,
  names_fit,
  partners_fit,
  partners_sides,
  sides_fit,
}
use Rattle.record_shapes.proofs.Each.{each_both, each_front, each_more, each_flat, each_parts}
use Rattle.list_laws.proofs.Booleans.{true_not_false}

module _ (c : Content) (is : IsSound c) where
  abbrev m : Records
  m = c.records

  abbrev a : Around
  a = around m

  child_side : (n : ℕ) (e : Numbered) → Stands m e → EachOf SideFits (child_sides n e)
  child_side n (k, kind.Family x) g =
      let room = is.rules.levels k (kind.Family x) g in
      let cs = each_parts IsGood (flat_map (λ (p : model.Partner). p.carried ++ p.carried_by_person) x.partners) _
      (good_carried c is k (kind.Family x) g) in
      children_sides n k x.children
      (each_front IsGood (flat_map (λ (p : model.Child). p.carried ++ p.carried_by_person) x.children) x.carried
      cs.1) room.1
  child_side n (k, _) g = tt

  partner_side : (n : ℕ) (e : Numbered) → Stands m e → EachOf SideFits (partner_sides n e)
  partner_side n (k, kind.Family x) g =
      let room = is.rules.levels k (kind.Family x) g in
      partners_sides n k x.partners
      (each_front IsGood (flat_map (λ (p : model.Partner). p.carried ++ p.carried_by_person) x.partners) _
      (good_carried c is k (kind.Family x) g)) room.0
  partner_side n (k, _) g = tt

  child_sides_fit : (n : ℕ) → EachOf SideFits (a.child_in n)
  child_sides_fit n = each_flat SideFits (child_sides n) (entries m)
      (each_more (Stands m) (λ e. EachOf SideFits (child_sides n e)) (λ e g. child_side n e g) (entries m)
      (entries_stand m))

  partner_sides_fit : (n : ℕ) → EachOf SideFits (a.partner_in n)
  partner_sides_fit n = each_flat SideFits (partner_sides n) (entries m)
      (each_more (Stands m) (λ e. EachOf SideFits (partner_sides n e)) (λ e g. partner_side n e g) (entries m)
      (entries_stand m))

  entry_place_fits : (o : Option ℕ) → AllFit 98 (entry_place_lines a o)
  entry_place_fits None = tt
  entry_place_fits (Some n) = (
    fits_line 97 98 (codes "PLAC") (value.Text (a.path n)) (pointer_line (codes "_LOC") n [] ∷ []) refl
        (good_tag (codes "PLAC") refl) (path_text c is n) (fits_loc 97 n (omega arith), tt),
    tt,
  )

  -- ---- each kind
  repo_fits : (k : ℕ) (x : model.Repo) → get m k ≡ Some (kind.Repo x) → AllFit 98 (repo_lines x)
  repo_fits k x g = each_both (Fits 98) (text_lines (codes "NAME") x.name) x.carried
      (fits_texts 98 (codes "NAME") x.name (omega arith) refl (texts c is k (kind.Repo x) g))
      (fits_within 98 x.carried (is.rules.levels k (kind.Repo x) g) (good_carried c is k (kind.Repo x) g))

  place_fits : (k : ℕ) (x : model.Place) → get m k ≡ Some (kind.Place x) → AllFit 98 (place_lines x)
  place_fits k x g = (
    fits_text 98 (codes "NAME") x.name (omega arith) refl (texts c is k (kind.Place x) g).0,
    each_both (Fits 98) (loc_lines x.parent) x.carried (fits_locs 98 x.parent (omega arith))
        (fits_within 98 x.carried (is.rules.levels k (kind.Place x) g) (good_carried c is k (kind.Place x) g)),
  )

  source_fits : (k : ℕ) (x : model.Source) → get m k ≡ Some (kind.Source x) → AllFit 98 (source_lines x)
  source_fits k x g =
      let calls = flat_map (λ (h : model.Holding). there h.call_number) x.holdings in
      let t1 = each_parts IsText (there x.title) (there x.author ++ (there x.publisher ++ calls))
      (texts c is k (kind.Source x) g) in
      let t2 = each_parts IsText (there x.author) (there x.publisher ++ calls) t1.1 in
      let t3 = each_parts IsText (there x.publisher) calls t2.1 in
      let cs = each_parts IsGood (flat_map (λ (h : model.Holding). h.carried) x.holdings) x.carried
      (good_carried c is k (kind.Source x) g) in
      let room = is.rules.levels k (kind.Source x) g in
      each_both (Fits 98) (text_lines (codes "TITL") x.title) _
      (fits_texts 98 (codes "TITL") x.title (omega arith) refl t1.0)
      (each_both (Fits 98) (text_lines (codes "AUTH") x.author) _
      (fits_texts 98 (codes "AUTH") x.author (omega arith) refl t2.0)
      (each_both (Fits 98) (text_lines (codes "PUBL") x.publisher) _
      (fits_texts 98 (codes "PUBL") x.publisher (omega arith) refl t3.0)
      (each_both (Fits 98) (map holding_line x.holdings) x.carried (holdings_fit x.holdings t3.1 cs.0 room.0)
      (fits_within 98 x.carried room.1 cs.1))))

  person_fits : (k : ℕ) (x : model.Person) → get m k ≡ Some (kind.Person x) → AllFit 98 (person_lines a k x (owns m k))
  person_fits k x g =
      let cs = each_parts IsGood (flat_map (λ (n : model.Name). n.carried) x.names) x.carried
      (good_carried c is k (kind.Person x) g) in
      let room = is.rules.levels k (kind.Person x) g in
      each_both (Fits 98) (map name_line x.names) _ (names_fit x.names (texts c is k (kind.Person x) g) cs.0 room.0)
      (each_both (Fits 98) (text_lines (codes "SEX") (option_map sex_word x.sex)) _
      (sex_fits c is 98 x.sex (omega arith))
      (each_both (Fits 98) (events_below a (owns m k)) _ (events_fit c is k (owns m k) (all_own c is k))
      (each_both (Fits 98) (map (side_line (codes "FAMC")) (a.child_in k)) _
      (sides_fit (codes "FAMC") (a.child_in k) refl (child_sides_fit k))
      (each_both (Fits 98) (map (side_line (codes "FAMS")) (a.partner_in k)) _
      (sides_fit (codes "FAMS") (a.partner_in k) refl (partner_sides_fit k))
      (each_both (Fits 98) (citation_lines (owns m k)) x.carried
      (own_citations_fit c is k (owns m k) (ap room_below g) (all_own c is k))
      (fits_within 98 x.carried room.1 cs.1))))))

  family_fits : (k : ℕ) (x : model.Family) → get m k ≡ Some (kind.Family x) → AllFit 98 (family_lines a x (owns m k))
  family_fits k x g =
      let cs1 = each_parts IsGood (flat_map (λ (p : model.Partner). p.carried ++ p.carried_by_person) x.partners) _
      (good_carried c is k (kind.Family x) g) in
      let cs2 = each_parts IsGood (flat_map (λ (p : model.Child). p.carried ++ p.carried_by_person) x.children)
      x.carried cs1.1 in
      let room = is.rules.levels k (kind.Family x) g in
      each_both (Fits 98) (map partner_line x.partners) _ (partners_fit x.partners cs1.0 room.0)
      (each_both (Fits 98) (map child_line x.children) _ (children_fit x.children cs2.0 room.1)
      (each_both (Fits 98) (events_below a (owns m k)) _ (events_fit c is k (owns m k) (all_own c is k))
      (each_both (Fits 98) (citation_lines (owns m k)) x.carried
      (own_citations_fit c is k (owns m k) (ap room_below g) (all_own c is k))
      (fits_within 98 x.carried room.2 cs2.1))))

  entry_fits : (k : ℕ) (x : model.Entry) → get m k ≡ Some (kind.Entry x) → AllFit 98 (entry_lines a x)
  entry_fits k x g =
      let t = texts c is k (kind.Entry x) g in
      let d = each_parts IsText (date_texts x.date) (flat_map mention_texts x.mentions) t.1.1 in
      let most : x.item.number ≤ 999999 = x.item.in_range.1 in (
        fits_pointer 97 98 (codes "SOUR") x.source [] refl refl tt,
        (
          fits_text 98 (codes "PAGE") x.page (omega arith) refl t.0,
          (
            fits_text 98 (codes "_ITEM") (decimal x.item.number) (omega arith) refl
                (decimal_text x.item.number (omega arith)),
            each_both (Fits 98) (text_lines (codes "DATE") (option_map date_text x.date)) _
                (date_fits c is 98 x.date (omega arith) d.0)
                (each_both (Fits 98) (entry_place_lines a x.place) _ (entry_place_fits x.place)
                (fits_text 98 (codes "TEXT") x.text (omega arith) refl t.1.0, mentions_fit x.mentions d.1)),
          ),
        ),
      )

  -- ---- a node
  pub record IsFine (t : Tree Line) : Type 0 where
    pub root : IsGoodLine (label t)
    pub below : AreGood (children t)
    pub low : forest_levels (children t) ≤ 98

  fine : (tag : List ℕ) (v : Value) (ts : Lines) → is_good_tag tag ≡ true → IsGoodValue v → AllFit 98 ts
      → IsFine (line tag v ts)
  fine tag v ts t g h = record { root = (good_tag tag t, g); below = all_good 98 ts h; low = all_low 98 ts h }

  other_value : (v : Value) → EachOf IsText (value_texts v) → IsGoodValue v
  other_value (value.Text t) h = h.0
  other_value (value.Ref n) h = tt

  empty : IsText []
  empty = plain_text [] refl refl

  pub node_fine : (e : Numbered) → StandsAt0 m e → IsFine (lines_of m e)
  node_fine (k, kind.Place x) st = fine (codes "_LOC") (value.Text []) (place_lines x) refl empty (place_fits k x st.0)
  node_fine (k, kind.Repo x) st = fine (codes "REPO") (value.Text []) (repo_lines x) refl empty (repo_fits k x st.0)
  node_fine (k, kind.Source x) st = fine (codes "SOUR") (value.Text []) (source_lines x) refl empty
      (source_fits k x st.0)
  node_fine (k, kind.Person x) st = fine (codes "INDI") (value.Text []) (person_lines a k x (owns m k)) refl empty
      (person_fits k x st.0)
  node_fine (k, kind.Family x) st = fine (codes "FAM") (value.Text []) (family_lines a x (owns m k)) refl empty
      (family_fits k x st.0)
  node_fine (k, kind.Entry x) st = fine (codes "_REG") (value.Text (entry_kind_word x.kind)) (entry_lines a x) refl
      (kind_text x.kind) (entry_fits k x st.0)
  node_fine (k, kind.Other x) st =
      let all = fits_within 98 x.carried (is.rules.levels k (kind.Other x) st.0)
      (good_carried c is k (kind.Other x) st.0) in
      record {
        root = ((is.rules.tags k (kind.Other x) st.0).0, other_value x.value (texts c is k (kind.Other x) st.0));
        below = all_good 98 x.carried all;
        low = all_low 98 x.carried all;
      }
  node_fine (k, kind.Event x) st = absurd (true_not_false (sym st.1))
  node_fine (k, kind.Citation x) st = absurd (true_not_false (sym st.1))
