-- Records that are put together of their parts.
use Rattle.std.proofs.Common.{◌≡◌, ℕ, List, [], ◌∷◌, ◌++◌, map, refl, sym, ap, ◌∙◌, append-nil}
use Rattle.std.specs.Prelude.{codes, Option, Some, None}
use Rattle.std.specs.FinMap.{get}
use Rattle.std.proofs.lemmas.Grind.{flat_map-append}
use Rattle.stored_lines.specs.Line.{Lines}
use Rattle.stored_lines.specs.Tree.{forest_of, list_of}
use Rattle.stored_lines.specs.declared.carried.Value.{Value}
use Rattle.stored_lines.specs.declared.carried.Value.TheVariants as value
use Rattle.record_kinds.specs.Model as model
use Rattle.record_kinds.specs.declared.record.Record.{Record}
use Rattle.record_kinds.specs.declared.record.Record.TheVariants as kind
use Rattle.record_shapes.specs.Shapes.{Around, citation_lines, citation_part, event_part, events_below, line, side_line}
use Rattle.node_writing.specs.Pages.{page, record_page}
use Rattle.node_writing.proofs.Pages.{record-below}
use Rattle.archive_state.specs.Content.{Records}
use Rattle.gedcom_export.specs.Index.{Index}
use Rattle.gedcom_export.specs.Shown.{around_in, names_in}
use Rattle.gedcom_export.specs.declared.membership.Membership.{Membership}
use Rattle.gedcom_export.specs.declared.index_owned.Owned.{Owned}
use Rattle.node_writing.specs.Parts.{event_head, family_head, person_head}
use Rattle.node_writing.proofs.Parts.{event_parts, family_parts, person_parts}
use Rattle.gedcom_export.specs.Pieces.{alone, below_at, events_at, listed, text_of, those_at, with_citations}
use Rattle.list_laws.proofs.Lists.{behind}
use Rattle.stored_lines.proofs.Listed.{list_back}

-- the first line of a record, and then those below it
pub simple_page : (names : ℕ → List ℕ) (n : ℕ) (tag : List ℕ) (v : Value) (below : Lines) (a b d : List ℕ)
    → b ≡ a ++ record_page names n (line tag v []) → d ≡ b ++ page names 1 below
    → d ≡ a ++ record_page names n (line tag v below)
simple_page names n tag v below a b d e f =
    behind a b d _ _ e f ∙ ap (λ (l : List ℕ). a ++ l) (sym (record-below names n tag v below))

-- ---- events are no citations
no_event : (a : Around) (o : Option Record) → events_below a (alone o) ≡ []
no_event a None = refl
no_event a (Some (kind.Citation x)) = refl
no_event a (Some (kind.Event x)) = refl
no_event a (Some (kind.Place x)) = refl
no_event a (Some (kind.Repo x)) = refl
no_event a (Some (kind.Source x)) = refl
no_event a (Some (kind.Person x)) = refl
no_event a (Some (kind.Family x)) = refl
no_event a (Some (kind.Entry x)) = refl
no_event a (Some (kind.Other x)) = refl

no_citation : (m : Records) (i : Index) (n : ℕ) (o : Option Record) → citation_lines (with_citations m i n o) ≡ []
no_citation m i n None = refl
no_citation m i n (Some (kind.Citation x)) = refl
no_citation m i n (Some (kind.Event x)) = refl
no_citation m i n (Some (kind.Place x)) = refl
no_citation m i n (Some (kind.Repo x)) = refl
no_citation m i n (Some (kind.Source x)) = refl
no_citation m i n (Some (kind.Person x)) = refl
no_citation m i n (Some (kind.Family x)) = refl
no_citation m i n (Some (kind.Entry x)) = refl
no_citation m i n (Some (kind.Other x)) = refl

no_events : (m : Records) (a : Around) (os : List Owned) → events_below a (those_at m os) ≡ []
no_events m a [] = refl
no_events m a (o ∷ os) = flat_map-append (event_part a) (alone (get m o.number)) (those_at m os)
    ∙ (λ j. no_event a (get m o.number) j ++ no_events m a os j)

no_citations : (m : Records) (i : Index) (os : List Owned) → citation_lines (events_at m i os) ≡ []
no_citations m i [] = refl
no_citations m i (o ∷ os) =
    flat_map-append citation_part (with_citations m i o.number (get m o.number)) (events_at m i os)
    ∙ (λ j. no_citation m i o.number (get m o.number) j ++ no_citations m i os j)

events_alone : (m : Records) (i : Index) (n : ℕ) → events_below (around_in i) (events_at m i (listed n i.events))
    ≡ events_below (around_in i) (below_at m i n)
events_alone m i n =
    let here : Lines = events_below (around_in i) (events_at m i (listed n i.events)) in
    sym (flat_map-append (event_part (around_in i)) (events_at m i (listed n i.events))
    (those_at m (listed n i.citations))
    ∙ ap (λ (l : Lines). here ++ l) (no_events m (around_in i) (listed n i.citations)) ∙ append-nil here)

citations_alone : (m : Records) (i : Index) (n : ℕ) → citation_lines (those_at m (listed n i.citations))
    ≡ citation_lines (below_at m i n)
citations_alone m i n =
    let here : Lines = citation_lines (those_at m (listed n i.citations)) in
    sym (flat_map-append citation_part (events_at m i (listed n i.events)) (those_at m (listed n i.citations))
    ∙ ap (λ (l : Lines). l ++ here) (no_citations m i (listed n i.events)))

module _ (m : Records) (i : Index) (n : ℕ) where
  -- an event, its citations, and what is carried
  pub event_page : (e : model.Event) (cs : List Owned) (a b c d : List ℕ) → cs ≡ listed n i.citations
      → b ≡ a ++ page (names_in i) 1 (event_head (around_in i) e ∷ [])
      → c ≡ b ++ page (names_in i) 2 (citation_lines (those_at m cs)) → d ≡ c ++ page (names_in i) 2 e.carried
      → d ≡ a ++ page (names_in i) 1 (events_below (around_in i) (with_citations m i n (Some (kind.Event e))))
  event_page e cs a b c d of first second third =
      behind a b d _ _ first (behind b c d _ _ second third)
      ∙ ap (λ (l : List ℕ). a ++ l)
      ((λ j. page (names_in i) 1 (event_head (around_in i) e ∷ [])
      ++ (page (names_in i) 2 (citation_lines (whole j)) ++ page (names_in i) 2 e.carried))
      ∙ sym (event_parts (names_in i) (around_in i) e (forest_of (those_at m (listed n i.citations))))) where
        whole : those_at m cs ≡ list_of (forest_of (those_at m (listed n i.citations)))
        whole = ap (those_at m) of ∙ sym (list_back (those_at m (listed n i.citations)))

  -- a person
  pub person_page : (p : model.Person) (es cs : List Owned) (child partner : List Membership)
      (t0 t1 t2 t3 t4 t5 t6 t7 : List ℕ)
      → es ≡ listed n i.events → cs ≡ listed n i.citations
      → map (λ (x : Membership). x.side) child ≡ (around_in i).child_in n
      → map (λ (x : Membership). x.side) partner ≡ (around_in i).partner_in n
      → t1 ≡ t0 ++ record_page (names_in i) n (line (codes "INDI") (value.Text []) [])
      → t2 ≡ t1 ++ page (names_in i) 1 (person_head p)
      → t3 ≡ t2 ++ page (names_in i) 1 (events_below (around_in i) (events_at m i es))
      → t4 ≡ t3 ++ page (names_in i) 1 (map (side_line (codes "FAMC")) (map (λ (x : Membership). x.side) child))
      → t5 ≡ t4 ++ page (names_in i) 1 (map (side_line (codes "FAMS")) (map (λ (x : Membership). x.side) partner))
      → t6 ≡ t5 ++ page (names_in i) 1 (citation_lines (those_at m cs))
      → t7 ≡ t6 ++ page (names_in i) 1 p.carried
      → t7 ≡ t0 ++ text_of m i n (Some (kind.Person p))
  person_page p es cs child partner t0 t1 t2 t3 t4 t5 t6 t7 ev ci ch pa e1 e2 e3 e4 e5 e6 e7 =
      behind t0 t1 t7 _ _ e1 (behind t1 t2 t7 _ _ e2 (behind t2 t3 t7 _ _ e3 (behind t3 t4 t7 _ _ e4
      (behind t4 t5 t7 _ _ e5 (behind t5 t6 t7 _ _ e6 e7)))))
      ∙ ap (λ (l : List ℕ). t0 ++ l)
      ((λ j. record_page (names_in i) n (line (codes "INDI") (value.Text []) [])
      ++ (page (names_in i) 1 (person_head p)
      ++ (page (names_in i) 1 (evented j)
      ++ (page (names_in i) 1 (map (side_line (codes "FAMC")) (ch j))
      ++ (page (names_in i) 1 (map (side_line (codes "FAMS")) (pa j))
      ++ (page (names_in i) 1 (cited j) ++ page (names_in i) 1 p.carried))))))
      ∙ sym (person_parts (names_in i) (around_in i) n p (below_at m i n))) where
        evented : events_below (around_in i) (events_at m i es) ≡ events_below (around_in i) (below_at m i n)
        evented = ap (λ os. events_below (around_in i) (events_at m i os)) ev ∙ events_alone m i n

        cited : citation_lines (those_at m cs) ≡ citation_lines (below_at m i n)
        cited = ap (λ os. citation_lines (those_at m os)) ci ∙ citations_alone m i n

  -- a family
  pub family_page : (f : model.Family) (es cs : List Owned) (t0 t1 t2 t3 t4 t5 : List ℕ)
      → es ≡ listed n i.events → cs ≡ listed n i.citations
      → t1 ≡ t0 ++ record_page (names_in i) n (line (codes "FAM") (value.Text []) [])
      → t2 ≡ t1 ++ page (names_in i) 1 (family_head f)
      → t3 ≡ t2 ++ page (names_in i) 1 (events_below (around_in i) (events_at m i es))
      → t4 ≡ t3 ++ page (names_in i) 1 (citation_lines (those_at m cs))
      → t5 ≡ t4 ++ page (names_in i) 1 f.carried
      → t5 ≡ t0 ++ text_of m i n (Some (kind.Family f))
  family_page f es cs t0 t1 t2 t3 t4 t5 ev ci e1 e2 e3 e4 e5 =
      behind t0 t1 t5 _ _ e1 (behind t1 t2 t5 _ _ e2 (behind t2 t3 t5 _ _ e3 (behind t3 t4 t5 _ _ e4 e5)))
      ∙ ap (λ (l : List ℕ). t0 ++ l)
      ((λ j. record_page (names_in i) n (line (codes "FAM") (value.Text []) [])
      ++ (page (names_in i) 1 (family_head f)
      ++ (page (names_in i) 1 (evented j) ++ (page (names_in i) 1 (cited j) ++ page (names_in i) 1 f.carried))))
      ∙ sym (family_parts (names_in i) (around_in i) n f (below_at m i n))) where
        evented : events_below (around_in i) (events_at m i es) ≡ events_below (around_in i) (below_at m i n)
        evented = ap (λ os. events_below (around_in i) (events_at m i os)) ev ∙ events_alone m i n

        cited : citation_lines (those_at m cs) ≡ citation_lines (below_at m i n)
        cited = ap (λ os. citation_lines (those_at m os)) ci ∙ citations_alone m i n
