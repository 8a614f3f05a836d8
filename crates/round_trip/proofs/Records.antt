-- The lines of the records of a sound archive have such tags and texts, and room.
use Rattle.std.specs.Prelude.{
  ℕ,
  ◌≡◌,
  ◌+◌,
  ◌≤◌,
  List,
  [],
  ◌∷◌,
  ◌++◌,
  map,
  codes,
  Option,
  Some,
  None,
  option_map,
  IfSome,
  refl,
}
use Rattle.std.specs.List.{flat_map}
use Rattle.std.specs.FinMap.{get}
use Rattle.std.proofs.Common.{ap, sym, ◌∙◌, subst, arith}
use Rattle.stored_lines.specs.Tree.{Tree, node, list_of}
use Rattle.stored_lines.specs.declared.carried.Value.TheVariants as value
use Rattle.record_kinds.specs.Model as model
use Rattle.record_kinds.specs.declared.record.Record.{Record}
use Rattle.record_kinds.specs.declared.record.Record.TheVariants as kind
use Rattle.record_fields.specs.Dated.{date_text}
use Rattle.record_fields.specs.Words.{quality_word, sex_word}
use Rattle.record_fields.specs.declared.date.Date.{Date}
use Rattle.record_fields.specs.declared.words.Quality.{Quality}
use Rattle.record_fields.specs.declared.words.Sex.{Sex}
use Rattle.record_text.specs.Text.{IsText}
use Rattle.archive_state.specs.Carried.{carried, carried_tags, place_line_carried}
use Rattle.record_shapes.specs.Levels.{AreWithin, room_below}
use Rattle.record_shapes.specs.Lists.{EachOf}
use Rattle.record_shapes.specs.Shapes.{
  Around,
  citation_line,
  citation_lines,
  event_lines,
  event_place_lines,
  events_below,
  line,
  loc_line,
  participant_line,
  role_lines,
  text_lines,
}
use Rattle.archive_state.specs.Content.{Content, Records}
use Rattle.archive_state.specs.Owned.{IsCitationOf, IsEventOf}
use Rattle.archive_state.specs.Sound.{IsOfRecords, IsSound, own_tags}
use Rattle.archive_state.specs.Texts.{carried_texts, date_texts, own_texts}
use Rattle.gedcom_export.specs.Around.{around}
use Rattle.round_trip.proofs.Nodes.{owns}
use Rattle.round_trip.proofs.Readable.{owned_are}
use Rattle.round_trip.proofs.Fitting.{
  AllFit,
  Fits,
  IsGood,
  fits_line,
  fits_loc,
  fits_pointer,
  fits_text,
  fits_texts,
  fits_within,
  good_lines,
  good_tag,
}
use Rattle.round_trip.proofs.Plain.{path_text, quality_text}
use Rattle.record_shapes.proofs.Each.{each_back, each_both, each_front, each_more, each_parts, each_of_flat}
use Rattle.record_fields.proofs.WordTexts.{sex_text}

module _ (c : Content) (is : IsSound c) where
  abbrev m : Records
  m = c.records

  abbrev a : Around
  a = around m

  -- ---- what the rules say of one record
  pub good_carried : (n : ℕ) (r : Record) → get m n ≡ Some r → EachOf IsGood (carried r)
  good_carried n r g =
      good_lines (carried r) (each_back IsOfRecords (own_tags r) (carried_tags r) (is.rules.tags n r g))
      (each_back IsText (own_texts r) (carried_texts r) (is.rules.texts n r g))

  pub texts : (n : ℕ) (r : Record) → get m n ≡ Some r → EachOf IsText (own_texts r)
  texts n r g = each_front IsText (own_texts r) (carried_texts r) (is.rules.texts n r g)

  -- ---- parts
  pub date_fits : (k : ℕ) (o : Option Date) → 1 ≤ k → EachOf IsText (date_texts o)
      → AllFit k (text_lines (codes "DATE") (option_map date_text o))
  date_fits k None l h = tt
  date_fits k (Some d) l h = (fits_text k (codes "DATE") (date_text d) l refl h.0, tt)

  quality_fits : (k : ℕ) (o : Option Quality) → 1 ≤ k → AllFit k (text_lines (codes "QUAY") (option_map quality_word o))
  quality_fits k None l = tt
  quality_fits k (Some q) l = (fits_text k (codes "QUAY") (quality_word q) l refl (quality_text q), tt)

  pub sex_fits : (k : ℕ) (o : Option Sex) → 1 ≤ k → AllFit k (text_lines (codes "SEX") (option_map sex_word o))
  sex_fits k None l = tt
  sex_fits k (Some s) l = (fits_text k (codes "SEX") (sex_word s) l refl (sex_text s), tt)

  citation_fits : (n k : ℕ) (x : model.Citation) → 1 ≤ k → get m n ≡ Some (kind.Citation x) → AreWithin k x.carried
      → Fits (k + 1) (citation_line x)
  citation_fits n k x l g w = fits_pointer k (k + 1) (codes "SOUR") x.source _ refl refl
      (each_both (Fits k) (text_lines (codes "PAGE") x.page) _
      (fits_texts k (codes "PAGE") x.page l refl (texts n (kind.Citation x) g))
      (each_both (Fits k) (text_lines (codes "QUAY") (option_map quality_word x.quality)) x.carried
      (quality_fits k x.quality l) (fits_within k x.carried w (good_carried n (kind.Citation x) g))))

  citations_fit : (k owner : ℕ) (ts : List (Tree Record)) → 1 ≤ k → room_below (get m owner) ≡ k
      → EachOf (IsCitationOf m owner) ts → AllFit (k + 1) (citation_lines ts)
  citations_fit k owner [] l r h = tt
  citations_fit k owner (node (kind.Citation x) f ∷ ts) l r ((n, g, o, e), h) = (
    citation_fits n k x l g
        (subst (λ (j : ℕ). AreWithin j x.carried) (ap (λ j. room_below (get m j)) o ∙ r)
        (is.rules.levels n (kind.Citation x) g)),
    citations_fit k owner ts l r h,
  )
  citations_fit k owner (node _ f ∷ ts) l r h = absurd h.0

  role_fits : (k : ℕ) (r : List ℕ) → 1 ≤ k → IsText r → AllFit k (role_lines r)
  role_fits k [] l h = tt
  role_fits k (b ∷ bs) l h = (fits_text k (codes "_ROLE") (b ∷ bs) l refl h, tt)

  participants_fit : (ps : List model.Participant) → EachOf IsText (map (λ (p : model.Participant). p.role) ps)
      → EachOf (λ (p : model.Participant). EachOf IsGood p.carried) ps
      → EachOf (λ (p : model.Participant). AreWithin 96 p.carried) ps → AllFit 97 (map participant_line ps)
  participants_fit [] t g w = tt
  participants_fit (p ∷ ps) t g w = (
    fits_pointer 96 97 (codes "_PART") p.person (role_lines p.role ++ p.carried) refl refl
        (each_both (Fits 96) (role_lines p.role) p.carried (role_fits 96 p.role (omega arith) t.0)
        (fits_within 96 p.carried w.0 g.0)),
    participants_fit ps t.1 g.1 w.1,
  )

  event_place_fits : (o : Option model.EventPlace) → EachOf IsGood (place_line_carried o)
      → IfSome o (λ (p : model.EventPlace). AreWithin 96 p.carried) → AllFit 97 (event_place_lines a o)
  event_place_fits None g w = tt
  event_place_fits (Some p) g w = (
    fits_line 96 97 (codes "PLAC") (value.Text (a.path p.place)) (loc_line p.place ∷ p.carried) refl
        (good_tag (codes "PLAC") refl) (path_text c is p.place)
        (fits_loc 96 p.place (omega arith), fits_within 96 p.carried w g),
    tt,
  )

  event_fits : (n : ℕ) (e : model.Event) (under : List (Tree Record)) → get m n ≡ Some (kind.Event e)
      → EachOf (IsCitationOf m n) under → Fits 98 (line e.tag (value.Text e.value) (event_lines a e under))
  event_fits n e under g owned =
      let t = texts n (kind.Event e) g in
      let dates = each_parts IsText (date_texts e.date) (map (λ (p : model.Participant). p.role) e.participants) t.1 in
      let cs = good_carried n (kind.Event e) g in
      let place = each_parts IsGood (place_line_carried e.place)
      (flat_map (λ (p : model.Participant). p.carried) e.participants ++ e.carried) cs in
      let rest = each_parts IsGood (flat_map (λ (p : model.Participant). p.carried) e.participants) e.carried place.1 in
      let room = is.rules.levels n (kind.Event e) g in
      fits_line 97 98 e.tag (value.Text e.value) (event_lines a e under) refl (is.rules.tags n (kind.Event e) g).0 t.0
      (each_both (Fits 97) (text_lines (codes "DATE") (option_map date_text e.date)) _
      (date_fits 97 e.date (omega arith) dates.0)
      (each_both (Fits 97) (event_place_lines a e.place) _ (event_place_fits e.place place.0 room.0)
      (each_both (Fits 97) (map participant_line e.participants) _
      (participants_fit e.participants dates.1
      (each_of_flat IsGood (λ (p : model.Participant). p.carried) e.participants rest.0) room.1)
      (each_both (Fits 97) (citation_lines under) e.carried
      (citations_fit 96 n under (omega arith) (ap room_below g) owned)
      (fits_within 97 e.carried room.2 rest.1)))))

  -- what a person or a family owns
  abbrev IsOwn : ℕ → Tree Record → Type 0
  IsOwn owner (node (kind.Event e) f) = IsEventOf m owner (node (kind.Event e) f)
  IsOwn owner (node (kind.Citation x) f) = IsCitationOf m owner (node (kind.Citation x) f)
  IsOwn owner (node _ f) = ⊥

  event_own : (owner : ℕ) (t : Tree Record) → IsEventOf m owner t → IsOwn owner t
  event_own owner (node (kind.Event e) f) h = h
  event_own owner (node _ f) h = absurd h

  citation_own : (owner : ℕ) (t : Tree Record) → IsCitationOf m owner t → IsOwn owner t
  citation_own owner (node (kind.Citation x) f) h = h
  citation_own owner (node _ f) h = absurd h

  pub all_own : (k : ℕ) → EachOf (IsOwn k) (owns m k)
  all_own k =
      let o = owned_are c is k in
      subst (EachOf (IsOwn k)) (sym o.all)
      (each_both (IsOwn k) o.events o.citations
      (each_more (IsEventOf m k) (IsOwn k) (event_own k) o.events o.are_events)
      (each_more (IsCitationOf m k) (IsOwn k) (citation_own k) o.citations o.are_citations))

  pub events_fit : (k : ℕ) (ts : List (Tree Record)) → EachOf (IsOwn k) ts → AllFit 98 (events_below a ts)
  events_fit k [] h = tt
  events_fit k (node (kind.Event e) f ∷ ts) ((n, g, o, under), h) =
      (event_fits n e (list_of f) g under, events_fit k ts h)
  events_fit k (node (kind.Citation x) f ∷ ts) h = events_fit k ts h.1
  events_fit k (node _ f ∷ ts) h = absurd h.0

  pub own_citations_fit : (k : ℕ) (ts : List (Tree Record)) → room_below (get m k) ≡ 97 → EachOf (IsOwn k) ts
      → AllFit 98 (citation_lines ts)
  own_citations_fit k [] r h = tt
  own_citations_fit k (node (kind.Citation x) f ∷ ts) r ((n, g, o, e), h) = (
    citation_fits n 97 x (omega arith) g
        (subst (λ (j : ℕ). AreWithin j x.carried) (ap (λ j. room_below (get m j)) o ∙ r)
        (is.rules.levels n (kind.Citation x) g)),
    own_citations_fit k ts r h,
  )
  own_citations_fit k (node (kind.Event x) f ∷ ts) r h = own_citations_fit k ts r h.1
  own_citations_fit k (node _ f ∷ ts) r h = absurd h.0
