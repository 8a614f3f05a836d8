-- The text that is put together by an index is that of the archive.
use Rattle.std.proofs.Common.{
  ◌≡◌,
  ℕ,
  suc,
  List,
  [],
  ◌∷◌,
  ◌++◌,
  map,
  Bool,
  true,
  ◌==◌,
  refl,
  sym,
  ap,
  ◌∙◌,
  arith,
  eqb-true,
}
use Rattle.std.specs.Prelude.{Some}
use Rattle.std.specs.List.{filter, flat_map}
use Rattle.std.specs.FinMap.{entries, get}
use Rattle.std.proofs.lemmas.Grind.{flat_map-append}
use Rattle.std.proofs.lemmas.List.{map-append}
use Rattle.std.proofs.lemmas.List.Folds.{flat_map-map}
use Rattle.stored_lines.specs.Tree.{Tree, forest_of, list_of, none, node, relabel_all}
use Rattle.record_kinds.specs.declared.record.Record.{Record}
use Rattle.record_kinds.specs.declared.record.Record.TheVariants as kind
use Rattle.record_shapes.specs.Shapes.{shape_of}
use Rattle.gedcom_tree.specs.Text.{line_text, text, trailer}
use Rattle.node_writing.specs.Header.{header}
use Rattle.node_writing.specs.Pages.{nodes_text, record_page}
use Rattle.archive_state.specs.Content.{Records}
use Rattle.gedcom_export.specs.Around.{around}
use Rattle.gedcom_export.specs.Forest.{exported, without_numbers}
use Rattle.gedcom_export.specs.Names.{name_of}
use Rattle.gedcom_export.specs.Order.{
  Numbered,
  citations_of,
  events_of,
  household,
  households,
  in_order,
  is_citation_of,
  is_event_of,
  of_rank,
  rank as rank_of,
}
use Rattle.gedcom_export.specs.Pages.{household_page}
use Rattle.gedcom_export.proofs.Texts.{text_of_exported}
use Rattle.gedcom_export.specs.Index.{Index, IsIndexOf, numbers, place_in_export}
use Rattle.gedcom_export.specs.Shown.{around_in, names_in}
use Rattle.gedcom_export.specs.declared.index_owned.Owned.{Owned}
use Rattle.gedcom_export.specs.declared.rank.Rank.{Rank}
use Rattle.gedcom_export.specs.declared.rank.Rank.TheVariants as rank
use Rattle.gedcom_export.proofs.Places.{paths_are}
use Rattle.gedcom_export.proofs.Whole.{names_are, numbers_are}
use Rattle.gedcom_export.specs.Pieces.{
  alone,
  below_at,
  events_at,
  kind_text,
  kinds_text,
  listed,
  ranks,
  text_at,
  text_of,
  those_at,
  whole_text,
  with_citations,
}
use Rattle.gedcom_export.proofs.Found.{all_got, by_records, same_of, some_at}
use Rattle.stored_lines.proofs.Relabel.{relabel_children}
use Rattle.stored_lines.proofs.Listed.{list_back}

abbrev bare : Numbered → Record
bare e = e.1

-- ---- trees

module _ (m : Records) (i : Index) (h : IsIndexOf (entries m) i) where
  -- ---- what a record owns
  single : (cs : List Numbered) → flat_map (λ (e : Numbered). node e.1 none ∷ []) cs
      ≡ map without_numbers (map (λ (e : Numbered). node e none) cs)
  single [] = refl
  single (c ∷ cs) = λ j. node c.1 none ∷ single cs j

  is_alone : (n : ℕ) (r : Record) → is_citation_of n r ≡ true → alone (Some r) ≡ node r none ∷ []
  is_alone n (kind.Citation c) is = refl
  is_alone n (kind.Place x) is = absurd cc
  is_alone n (kind.Repo x) is = absurd cc
  is_alone n (kind.Source x) is = absurd cc
  is_alone n (kind.Person x) is = absurd cc
  is_alone n (kind.Family x) is = absurd cc
  is_alone n (kind.Entry x) is = absurd cc
  is_alone n (kind.Other x) is = absurd cc
  is_alone n (kind.Event x) is = absurd cc

  citations_are : (n : ℕ) → those_at m (listed n i.citations) ≡ map without_numbers (citations_of (entries m) n)
  citations_are n =
      let of : Numbered → Bool = λ e. is_citation_of n e.1 in
      sym (flat_map-map (λ (q : ℕ). alone (get m q)) (λ (o : Owned). o.number) (listed n i.citations))
      ∙ ap (flat_map (λ (q : ℕ). alone (get m q))) (h.gathered.citations n)
      ∙ by_records (get m) (λ q o. alone o) (filter of (entries m)) (some_at (get m) of (entries m) (all_got m))
      ∙ same_of (λ (e : Numbered). alone (Some e.1)) (λ (e : Numbered). node e.1 none ∷ []) of
      (λ e is. is_alone n e.1 is) (entries m)
      ∙ single (filter of (entries m))

  -- an event with its citations
  whole_event : (e : Numbered) → node e.1 (forest_of (those_at m (listed e.0 i.citations)))
      ≡ without_numbers (node e (forest_of (citations_of (entries m) e.0)))
  whole_event e = ap (λ ts. node e.1 (forest_of ts)) (citations_are e.0)
      ∙ ap (node e.1) (sym (relabel_children bare (citations_of (entries m) e.0)))

  abbrev cited : Numbered → List (Tree Record)
  cited e = node e.1 (forest_of (those_at m (listed e.0 i.citations))) ∷ []

  is_cited : (n : ℕ) (e : Numbered) → is_event_of n e.1 ≡ true → with_citations m i e.0 (Some e.1) ≡ cited e
  is_cited n (q, kind.Event x) is = refl
  is_cited n (q, kind.Place x) is = absurd cc
  is_cited n (q, kind.Repo x) is = absurd cc
  is_cited n (q, kind.Source x) is = absurd cc
  is_cited n (q, kind.Person x) is = absurd cc
  is_cited n (q, kind.Family x) is = absurd cc
  is_cited n (q, kind.Entry x) is = absurd cc
  is_cited n (q, kind.Other x) is = absurd cc
  is_cited n (q, kind.Citation x) is = absurd cc

  with_all : (es : List Numbered) → flat_map cited es
      ≡ map without_numbers (map (λ (e : Numbered). node e (forest_of (citations_of (entries m) e.0))) es)
  with_all [] = refl
  with_all (e ∷ es) = λ j. whole_event e j ∷ with_all es j

  events_are : (n : ℕ) → events_at m i (listed n i.events) ≡ map without_numbers (events_of (entries m) n)
  events_are n =
      let of : Numbered → Bool = λ e. is_event_of n e.1 in
      sym (flat_map-map (λ (q : ℕ). with_citations m i q (get m q)) (λ (o : Owned). o.number) (listed n i.events))
      ∙ ap (flat_map (λ (q : ℕ). with_citations m i q (get m q))) (h.gathered.events n)
      ∙ by_records (get m) (with_citations m i) (filter of (entries m)) (some_at (get m) of (entries m) (all_got m))
      ∙ same_of (λ (e : Numbered). with_citations m i e.0 (Some e.1)) cited of (is_cited n) (entries m)
      ∙ with_all (filter of (entries m))

  below_is : (n : ℕ) → below_at m i n
      ≡ list_of (relabel_all bare (forest_of (events_of (entries m) n ++ citations_of (entries m) n)))
  below_is n =
      let es : List (Tree Numbered) = events_of (entries m) n in
      let cs : List (Tree Numbered) = citations_of (entries m) n in
      (λ j. events_are n j ++ citations_are n j) ∙ sym (map-append without_numbers es cs)
      ∙ sym (ap list_of (relabel_children bare (es ++ cs)) ∙ list_back (map without_numbers (es ++ cs)))

  -- ---- records
  names_same : names_in i ≡ name_of m
  names_same = λ j n. names_are m i h.gathered n j

  around_same : around_in i ≡ around m
  around_same = λ j. record {
    path = λ n. paths_are m i h.gathered n j;
    child_in = λ n. h.gathered.child_in n j;
    partner_in = λ n. h.gathered.partner_in n j;
  }

  page_same : (e : Numbered) → record_page (names_in i) e.0 (shape_of (around_in i) e.0 e.1 (below_at m i e.0))
      ≡ household_page m (household (entries m) e)
  page_same e = λ j. record_page (names_same j) e.0 (shape_of (around_same j) e.0 e.1 (below_is e.0 j))

  -- a record of level 0
  text_same : (n k : ℕ) (r : Record) → rank_of r ≡ suc k → text_of m i n (Some r)
      ≡ record_page (names_in i) n (shape_of (around_in i) n r (below_at m i n))
  text_same n k (kind.Place x) is = refl
  text_same n k (kind.Repo x) is = refl
  text_same n k (kind.Source x) is = refl
  text_same n k (kind.Person x) is = refl
  text_same n k (kind.Family x) is = refl
  text_same n k (kind.Entry x) is = refl
  text_same n k (kind.Other x) is = refl
  text_same n k (kind.Event x) is = absurd (omega (arith, is))
  text_same n k (kind.Citation x) is = absurd (omega (arith, is))

  -- ---- kinds
  abbrev pages_of : List Numbered → List ℕ
  pages_of es = flat_map (λ (e : Numbered). household_page m (household (entries m) e)) es

  ranked_same : (k : ℕ) → flat_map (λ (e : Numbered). text_of m i e.0 (Some e.1)) (of_rank (entries m) (suc k))
      ≡ pages_of (of_rank (entries m) (suc k))
  ranked_same k =
      same_of (λ (e : Numbered). text_of m i e.0 (Some e.1))
      (λ (e : Numbered). household_page m (household (entries m) e)) (λ (e : Numbered). rank_of e.1 == suc k)
      (λ e is. text_same e.0 k e.1 (eqb-true (rank_of e.1) (suc k) is) ∙ page_same e) (entries m)

  numbered_same : (k : ℕ) → flat_map (text_at m i) (numbers (of_rank (entries m) (suc k)))
      ≡ pages_of (of_rank (entries m) (suc k))
  numbered_same k =
      by_records (get m) (text_of m i) (of_rank (entries m) (suc k))
      (some_at (get m) (λ (e : Numbered). rank_of e.1 == suc k) (entries m) (all_got m)) ∙ ranked_same k

  kind_same : (r : Rank) (k : ℕ) → place_in_export r ≡ suc k → kind_text m i r
      ≡ pages_of (of_rank (entries m) (place_in_export r))
  kind_same r k is =
      ap (flat_map (text_at m i)) (numbers_are (entries m) i h.gathered r
      ∙ ap (λ q. numbers (of_rank (entries m) q)) is)
      ∙ numbered_same k ∙ ap (λ q. pages_of (of_rank (entries m) q)) (sym is)

  any_kind : (r : Rank) → kind_text m i r ≡ pages_of (of_rank (entries m) (place_in_export r))
  any_kind rank.Places = kind_same rank.Places 0 refl
  any_kind rank.Repos = kind_same rank.Repos 1 refl
  any_kind rank.Sources = kind_same rank.Sources 2 refl
  any_kind rank.Persons = kind_same rank.Persons 3 refl
  any_kind rank.Families = kind_same rank.Families 4 refl
  any_kind rank.Entries = kind_same rank.Entries 5 refl
  any_kind rank.Others = kind_same rank.Others 6 refl

  kinds_same : (rs : List Rank) → kinds_text m i rs
      ≡ pages_of (flat_map (of_rank (entries m)) (map place_in_export rs))
  kinds_same [] = refl
  kinds_same (r ∷ rs) =
      (λ j. any_kind r j ++ kinds_same rs j)
      ∙ sym (flat_map-append (λ (e : Numbered). household_page m (household (entries m) e))
      (of_rank (entries m) (place_in_export r)) (flat_map (of_rank (entries m)) (map place_in_export rs)))

  -- the text of all records is that of all households
  pub all_same : kinds_text m i ranks ≡ flat_map (household_page m) (households m)
  all_same = kinds_same ranks ∙ sym (flat_map-map (household_page m) (household (entries m)) (in_order (entries m)))

  pub whole_same : (society : List ℕ) → whole_text m i society ≡ text (exported m society)
  whole_same society =
      ap (λ (l : List ℕ). nodes_text 0 (header society) ++ (l ++ line_text trailer)) all_same
      ∙ sym (text_of_exported m society)
