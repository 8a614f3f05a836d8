-- What a person or a family owns is read again: its events, and then its citations.
use Rattle.std.specs.Prelude.{ℕ, ◌≡◌, List, [], ◌∷◌, ◌++◌, map, true, false, cond, None, codes, refl, bytes_eq}
use Rattle.std.specs.List.{list_any, flat_map}
use Rattle.std.proofs.Common.{ap, sym, ◌∙◌, append-nil, subst}
use Rattle.std.proofs.lemmas.List.Concat.{flat_map-append}
use Rattle.stored_lines.specs.Tree.{Tree, Forest, node, forest_of, list_of, relabel_all}
use Rattle.stored_lines.specs.Line.{Line, Lines}
use Rattle.stored_lines.specs.declared.carried.Value.TheVariants as value
use Rattle.stored_lines.proofs.Relabel.{relabel_children}
use Rattle.record_kinds.specs.Model as model
use Rattle.record_kinds.specs.declared.record.Record.{Record}
use Rattle.record_kinds.specs.declared.record.Record.TheVariants as kind
use Rattle.record_shapes.specs.Lists.{EachOf}
use Rattle.record_shapes.specs.Forms.{Known}
use Rattle.record_shapes.specs.Fields.{Field, a_citation, an_event, is_same}
use Rattle.record_shapes.specs.Picking.{all_of}
use Rattle.record_shapes.specs.Shapes.{
  Around,
  citation_line,
  citation_lines,
  citation_part,
  event_lines,
  event_part,
  events_below,
  line,
}
use Rattle.record_shapes.specs.Reading.{Draft, draft_if, read}
use Rattle.record_shapes.specs.Readable.{IsCitationBelow, IsEventBelow, IsKnown, IsOwned}
use Rattle.record_shapes.specs.Laws.{apart, drafted}
use Rattle.record_shapes.proofs.Picked.{Are}
use Rattle.record_shapes.proofs.Events.{citation_back, event_back}
use Rattle.stored_lines.proofs.Listed.{forest_list}

-- the drafts of what is owned
pub drafted_below : (r : Record) (f : Forest Record) → node (read (apart r) None) (forest_of (map drafted (list_of f)))
    ≡ drafted (node r f)
drafted_below r f = ap (node (read (apart r) None)) (sym (relabel_children (λ r. read (apart r) None) (list_of f))
    ∙ ap (relabel_all (λ r. read (apart r) None)) (forest_list f))

-- a field of neither an event nor a citation makes no draft
no-draft : (known : Known) (x : Field) (t : Tree Line) → is_same x an_event ≡ false → is_same x a_citation ≡ false
    → draft_if known x t ≡ []
no-draft known an_event t e c = absurd cc
no-draft known a_citation t e c = absurd cc
no-draft known _ t e c = refl

-- the field that tells the lines of a kind apart
pub record IsOwner (known : Known) (field : Tree Line → Field) (tags : List (List ℕ)) : Type 0 where
  pub events : (tag v : List ℕ) (under : Lines) → list_any (bytes_eq tag) tags ≡ true
      → field (line tag (value.Text v) under) ≡ an_event
  pub citations : (c : model.Citation) → IsKnown (codes "SOUR") known c.source → field (citation_line c) ≡ a_citation

module _ (known : Known) (field : Tree Line → Field) (tags : List (List ℕ)) (owner : IsOwner known field tags)
    (a : Around) where
  abbrev drafts_of : Lines → List (Tree Draft)
  drafts_of ts = flat_map (λ t. draft_if known (field t) t) ts

  pub drafts_skip : (x : Field) (ts us : Lines) → Are field x ts → is_same x an_event ≡ false
      → is_same x a_citation ≡ false → drafts_of (ts ++ us) ≡ drafts_of us
  drafts_skip x [] us h e c = refl
  drafts_skip x (t ∷ ts) us h e c =
      (λ i. (ap (λ y. draft_if known y t) h.0 ∙ no-draft known x t e c) i ++ drafts_skip x ts us h.1 e c i)

  -- lines that are left make none
  pub drafts_left : (ts : Lines) → all_of field an_event ts ≡ [] → all_of field a_citation ts ≡ [] → drafts_of ts ≡ []
  drafts_left [] e c = refl
  drafts_left (t ∷ ts) e c =
      elim (is_same (field t) an_event) as (λ b. is_same (field t) an_event ≡ b
      → cond b (t ∷ all_of field an_event ts) (all_of field an_event ts) ≡ [] → drafts_of (t ∷ ts) ≡ []) [
        | true ↦ λ z y. absurd cc
        | false ↦ λ z y. elim (is_same (field t) a_citation) as (λ b. is_same (field t) a_citation ≡ b
            → cond b (t ∷ all_of field a_citation ts) (all_of field a_citation ts) ≡ [] → drafts_of (t ∷ ts) ≡ []) [
              | true ↦ λ w v. absurd cc
              | false ↦ λ w v. λ i. no-draft known (field t) t z w i ++ drafts_left ts y v i
            ] refl c
      ] refl e

  -- events have no lines of citations, and citations none of events
  no-citation-lines : (ts : List (Tree Record)) → EachOf (IsEventBelow known a tags) ts → citation_lines ts ≡ []
  no-citation-lines [] h = refl
  no-citation-lines (node (kind.Event e) f ∷ ts) h = no-citation-lines ts h.1
  no-citation-lines (node _ f ∷ ts) h = absurd h.0

  no-event-lines : (ts : List (Tree Record)) → EachOf (IsCitationBelow known) ts → events_below a ts ≡ []
  no-event-lines [] h = refl
  no-event-lines (node (kind.Citation c) f ∷ ts) h = no-event-lines ts h.1
  no-event-lines (node _ f ∷ ts) h = absurd h.0

  events-are : (ts : List (Tree Record)) → EachOf (IsEventBelow known a tags) ts
      → Are field an_event (events_below a ts)
  events-are [] h = tt
  events-are (node (kind.Event e) f ∷ ts) h = (
    owner.events e.tag e.value (event_lines a e (list_of f)) h.0.0,
    events-are ts h.1,
  )
  events-are (node _ f ∷ ts) h = absurd h.0

  citations-are : (ts : List (Tree Record)) → EachOf (IsCitationBelow known) ts
      → Are field a_citation (citation_lines ts)
  citations-are [] h = tt
  citations-are (node (kind.Citation c) f ∷ ts) h = (owner.citations c h.0.1.source, citations-are ts h.1)
  citations-are (node _ f ∷ ts) h = absurd h.0

  events-drafts : (ts : List (Tree Record)) (us : Lines) → EachOf (IsEventBelow known a tags) ts
      → drafts_of (events_below a ts ++ us) ≡ map drafted ts ++ drafts_of us
  events-drafts [] us h = refl
  events-drafts (node (kind.Event e) f ∷ ts) us h =
      let t = line e.tag (value.Text e.value) (event_lines a e (list_of f)) in
      let one : draft_if known (field t) t ≡ drafted (node (kind.Event e) f) ∷ [] =
      ap (λ y. draft_if known y t) (owner.events e.tag e.value (event_lines a e (list_of f)) h.0.0)
      ∙ ap (λ d. d ∷ []) (event_back known a e (list_of f) h.0.1 ∙ drafted_below (kind.Event e) f) in
      λ i. one i ++ events-drafts ts us h.1 i
  events-drafts (node _ f ∷ ts) us h = absurd h.0

  citations-drafts : (ts : List (Tree Record)) (us : Lines) → EachOf (IsCitationBelow known) ts
      → drafts_of (citation_lines ts ++ us) ≡ map drafted ts ++ drafts_of us
  citations-drafts [] us h = refl
  citations-drafts (node (kind.Citation c) f ∷ ts) us h =
      let one : draft_if known (field (citation_line c)) (citation_line c) ≡ drafted (node (kind.Citation c) f) ∷ [] =
      ap (λ y. draft_if known y (citation_line c)) (owner.citations c h.0.1.source)
      ∙ (λ i. node (read (kind.Citation (citation_back c h.0.1.untaken i)) None)
      (sym (ap (relabel_all (λ r. read (apart r) None)) h.0.0) i) ∷ []) in
      λ i. one i ++ citations-drafts ts us h.1 i
  citations-drafts (node _ f ∷ ts) us h = absurd h.0

  module _ (under : List (Tree Record)) (h : IsOwned known a tags under) where
    event-lines-are : events_below a under ≡ events_below a h.events
    event-lines-are = ap (events_below a) h.all ∙ flat_map-append (event_part a) h.events h.citations
        ∙ ap (λ (us : Lines). events_below a h.events ++ us) (no-event-lines h.citations h.are_citations)
        ∙ append-nil (events_below a h.events)

    citation-lines-are : citation_lines under ≡ citation_lines h.citations
    citation-lines-are = ap citation_lines h.all ∙ flat_map-append citation_part h.events h.citations
        ∙ ap (λ (us : Lines). us ++ citation_lines h.citations) (no-citation-lines h.events h.are_events)

    pub are_events : Are field an_event (events_below a under)
    are_events = subst (λ (us : Lines). Are field an_event us) (sym event-lines-are) (events-are h.events h.are_events)

    pub are_citations : Are field a_citation (citation_lines under)
    are_citations = subst (λ (us : Lines). Are field a_citation us) (sym citation-lines-are)
        (citations-are h.citations h.are_citations)

    pub drafts_events : (us : Lines) → drafts_of (events_below a under ++ us) ≡ map drafted h.events ++ drafts_of us
    drafts_events us = ap (λ (vs : Lines). drafts_of (vs ++ us)) event-lines-are
        ∙ events-drafts h.events us h.are_events

    pub drafts_citations : (us : Lines) → drafts_of (citation_lines under ++ us) ≡ map drafted
        h.citations ++ drafts_of us
    drafts_citations us = ap (λ (vs : Lines). drafts_of (vs ++ us)) citation-lines-are
        ∙ citations-drafts h.citations us h.are_citations
