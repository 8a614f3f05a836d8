-- What is read from the lines of a citation and of an event is that citation and that event.
use Rattle.std.specs.Prelude.{
  ℕ,
  ◌≡◌,
  List,
  [],
  ◌∷◌,
  ◌++◌,
  map,
  Bool,
  true,
  false,
  not,
  cond,
  Option,
  Some,
  None,
  option_map,
  codes,
  refl,
  ◌&&◌,
}
use Rattle.std.specs.List.{filter}
use Rattle.std.specs.Option.{unwrap_or}
use Rattle.std.proofs.Common.{ap, sym, ◌∙◌, append-nil}
use Rattle.stored_lines.specs.Tree.{Tree, node, forest_of, list_of, relabel_all}
use Rattle.stored_lines.specs.Line.{Line, Lines}
use Rattle.stored_lines.specs.declared.carried.Value.TheVariants as value
use Rattle.stored_lines.proofs.Back.{list_of_forest_of}
use Rattle.gedcom_date.proofs.Deciding.{some_value}
use Rattle.record_kinds.specs.Model as model
use Rattle.record_kinds.specs.declared.record.Record.{Record}
use Rattle.record_kinds.specs.declared.record.Record.TheVariants as kind
use Rattle.record_fields.specs.Bytes.{bytes_same}
use Rattle.record_fields.specs.Words.{quality_word, quality_of}
use Rattle.record_fields.specs.Dated.{date_of, date_text}
use Rattle.record_fields.proofs.Dated.{date_back}
use Rattle.record_fields.specs.declared.date.Date.{Date}
use Rattle.record_fields.specs.declared.words.Quality.{Quality}
use Rattle.record_fields.specs.declared.words.Quality.TheVariants as quality
use Rattle.record_shapes.specs.Lists.{EachOf}
use Rattle.record_shapes.specs.Paths.{normal}
use Rattle.record_shapes.specs.Forms.{Known, is_empty, is_some}
use Rattle.record_shapes.specs.Fields.{
  Field,
  a_citation,
  a_date,
  a_page,
  a_participant,
  a_place,
  a_quality,
  a_role,
  carried,
  citation_field,
  event_field,
  is_same,
  participant_field,
  row,
}
use Rattle.record_shapes.specs.Picking.{all_of, first, is_left, left, text_at, without_first}
use Rattle.record_shapes.specs.Shapes.{
  Around,
  citation_line,
  citation_lines,
  event_lines,
  event_place_line,
  event_place_lines,
  line,
  loc_line,
  maybe,
  participant_line,
  role_lines,
  role_said,
  text_line,
  text_lines,
}
use Rattle.record_shapes.specs.Reading.{
  Draft,
  below_event,
  citation_draft,
  citation_from,
  dated,
  event_draft,
  event_place_from,
  event_place_with,
  has_path,
  is_loc,
  participant_from,
  place_named,
  read,
  read_by,
  sought_drafts,
  sought_on,
  unless_named,
  without,
}
use Rattle.record_shapes.specs.Untaken.{AreUntaken, citation_leaves, event_leaves, participant_leaves}
use Rattle.record_shapes.specs.Readable.{HasShownPlace, IsCitationBelow, IsReadableEvent, IsReadableParticipant}
use Rattle.record_shapes.specs.Laws.{apart, drafted}
use Rattle.record_shapes.proofs.Picked.{
  Are,
  kept_all,
  keep_skip,
  all_skip,
  all_take,
  lacks,
  text_are,
  out_first,
  text_here,
  text_skip,
  one_are,
  one_out,
  one_here,
  left_more,
}

abbrev unowned : model.Citation → model.Citation
unowned c = record { owner = 0; source = c.source; page = c.page; quality = c.quality; carried = c.carried }

-- ---- citations
quality-is : (o : Option Quality) (t : List ℕ) → option_map quality_word o ≡ Some t
    → citation_field (text_line (codes "QUAY") t) ≡ a_quality
quality-is None t e = absurd cc
quality-is (Some quality.Unreliable) t e = let same : codes "0" ≡ t = cc in
    ap (λ u. citation_field (text_line (codes "QUAY") u)) (sym same)
quality-is (Some quality.Questionable) t e = let same : codes "1" ≡ t = cc in
    ap (λ u. citation_field (text_line (codes "QUAY") u)) (sym same)
quality-is (Some quality.Secondary) t e = let same : codes "2" ≡ t = cc in
    ap (λ u. citation_field (text_line (codes "QUAY") u)) (sym same)
quality-is (Some quality.Primary) t e = let same : codes "3" ≡ t = cc in
    ap (λ u. citation_field (text_line (codes "QUAY") u)) (sym same)

quality-read : (o : Option Quality) → read_by quality_of (option_map quality_word o) ≡ o
quality-read None = refl
quality-read (Some quality.Unreliable) = refl
quality-read (Some quality.Questionable) = refl
quality-read (Some quality.Secondary) = refl
quality-read (Some quality.Primary) = refl

no-quality-word : (o : Option Quality) → option_map quality_word o ≡ None → is_some o ≡ false
no-quality-word None e = refl
no-quality-word (Some s) e = absurd cc

citation-kept : (c : model.Citation) (x : Field) → citation_leaves c x ≡ true
    → is_left (a_page ∷ a_quality ∷ []) x ≡ true
citation-kept c carried e = refl
citation-kept c a_page e = refl
citation-kept c a_quality e = refl
citation-kept c _ e = absurd cc

pub citation_back : (c : model.Citation) → AreUntaken citation_field (citation_leaves c) c.carried
    → citation_from (citation_line c) ≡ unowned c
citation_back c h =
    let f = citation_field in
    let once = a_page ∷ a_quality ∷ [] in
    let ps = text_lines (codes "PAGE") c.page in
    let qs = text_lines (codes "QUAY") (option_map quality_word c.quality) in
    let ls = ps ++ (qs ++ c.carried) in
    let flat : list_of (forest_of ls) ≡ ls = list_of_forest_of ls in
    let are-ps : Are f a_page ps = text_are f a_page (codes "PAGE") c.page (λ t e. refl) in
    let are-qs : Are f a_quality qs = text_are f a_quality (codes "QUAY") (option_map quality_word c.quality)
    (quality-is c.quality) in
    let no-quality : option_map quality_word c.quality ≡ None → all_of f a_quality c.carried ≡ [] = λ e. lacks f
    (citation_leaves c) a_quality c.carried h (no-quality-word c.quality e) in
    let no-page : c.page ≡ None → all_of f a_page (qs ++ c.carried) ≡ [] = λ e.
    all_skip f a_page a_quality qs c.carried are-qs refl ∙ lacks f (citation_leaves c) a_page c.carried h
    (ap is_some e) in
    λ i. record {
      owner = 0;
      source = c.source;
      page = (ap (text_at f a_page) flat ∙ text_here f a_page (codes "PAGE") c.page (qs ++ c.carried)
          (λ t e. refl) refl no-page) i;
      quality = (ap (read_by quality_of) (ap (text_at f a_quality) flat ∙ text_skip f a_quality a_page ps
          (qs ++ c.carried) are-ps refl
          ∙ text_here f a_quality (codes "QUAY") (option_map quality_word c.quality) c.carried
          (quality-is c.quality) refl no-quality) ∙ quality-read c.quality) i;
      carried = (ap (left f once) flat
          ∙ ap (λ us. filter (λ t. is_left once (f t)) (without_first f a_quality us))
          (out_first f a_page (codes "PAGE") c.page (qs ++ c.carried) (λ t e. refl) refl no-page)
          ∙ ap (filter (λ t. is_left once (f t)))
          (out_first f a_quality (codes "QUAY") (option_map quality_word c.quality) c.carried
          (quality-is c.quality) refl no-quality)
          ∙ kept_all f (is_left once) c.carried
          (left_more f (citation_leaves c) (is_left once) c.carried (citation-kept c) h)) i;
    }

-- ---- participants
role-is : (role t : List ℕ) → role_said role ≡ Some t → participant_field (text_line (codes "_ROLE") t) ≡ a_role
role-is [] t e = absurd cc
role-is (b ∷ bs) t e = let same : b ∷ bs ≡ t = cc in
    ap (λ u. participant_field (text_line (codes "_ROLE") u)) (sym same)

role-none : (role : List ℕ) → role_said role ≡ None → not (is_empty role) ≡ false
role-none [] e = refl
role-none (b ∷ bs) e = absurd cc

role-read : (role : List ℕ) → unwrap_or (role_said role) [] ≡ role
role-read [] = refl
role-read (b ∷ bs) = refl

participant-kept : (p : model.Participant) (x : Field) → participant_leaves p x ≡ true → is_left (a_role ∷ []) x ≡ true
participant-kept p carried e = refl
participant-kept p a_role e = refl
participant-kept p _ e = absurd cc

participant-back : (p : model.Participant) → AreUntaken participant_field (participant_leaves p) p.carried
    → participant_from (participant_line p) ≡ p
participant-back p h =
    let f = participant_field in
    let ls = role_lines p.role ++ p.carried in
    let flat : list_of (forest_of ls) ≡ ls = list_of_forest_of ls in
    let no-role : role_said p.role ≡ None → all_of f a_role p.carried ≡ [] = λ e. lacks f
    (participant_leaves p) a_role p.carried h (role-none p.role e) in
    λ i. record {
      person = p.person;
      role = (ap (λ o. unwrap_or o []) (ap (text_at f a_role) flat ∙ text_here f a_role (codes "_ROLE")
          (role_said p.role) p.carried (role-is p.role) refl no-role) ∙ role-read p.role) i;
      carried = (ap (left f (a_role ∷ [])) flat
          ∙ ap (filter (λ t. is_left (a_role ∷ []) (f t)))
          (out_first f a_role (codes "_ROLE") (role_said p.role) p.carried (role-is p.role) refl no-role)
          ∙ kept_all f (is_left (a_role ∷ [])) p.carried
          (left_more f (participant_leaves p) (is_left (a_role ∷ [])) p.carried (participant-kept p) h)) i;
    }

participants-back : (known : Known) (ps : List model.Participant) → EachOf (IsReadableParticipant known) ps
    → map participant_from (map participant_line ps) ≡ ps
participants-back known [] h = refl
participants-back known (p ∷ ps) h = λ i. participant-back p h.0.1 i ∷ participants-back known ps h.1 i

participants-are : (known : Known) (ps : List model.Participant) → EachOf (IsReadableParticipant known) ps
    → Are (event_field known) a_participant (map participant_line ps)
participants-are known [] h = tt
participants-are known (p ∷ ps) h = (ap (λ b. row b a_participant carried) h.0.0, participants-are known ps h.1)

-- ---- the place
place-is : (known : Known) (a : Around) (o : Option model.EventPlace) → HasShownPlace known a o → (t : Tree Line)
    → option_map (event_place_line a) o ≡ Some t → event_field known t ≡ a_place
place-is known a None h t e = absurd cc
place-is known a (Some p) h t e =
    let same : event_place_line a p ≡ t = cc in
    ap (event_field known) (sym same) ∙ rw h.2

loc-true : (known : Known) (a : Around) (p : model.EventPlace) → HasShownPlace known a (Some p)
    → is_loc known (normal (a.path p.place)) (loc_line p.place) ≡ true
loc-true known a p h = ap (has_path (normal (a.path p.place))) h.0 ∙ bytes_same (a.path p.place)
    (normal (a.path p.place)) (sym h.1)

place-named : (known : Known) (a : Around) (p : model.EventPlace) → HasShownPlace known a (Some p)
    → place_named known (event_place_line a p) ≡ Some (loc_line p.place)
place-named known a p h =
    let behind = filter (is_loc known (normal (a.path p.place))) (list_of (forest_of p.carried)) in
    ap (λ b. first (cond b (loc_line p.place ∷ behind) behind)) (loc-true known a p h)

event-place-back : (known : Known) (a : Around) (p : model.EventPlace) → HasShownPlace known a (Some p)
    → event_place_from known (event_place_line a p) ≡ p
event-place-back known a p h =
    let behind = list_of (forest_of p.carried) in
    ap (event_place_with known (event_place_line a p)) (place-named known a p h)
    ∙ (λ i. record {
      place = p.place;
      carried = (ap (λ b. cond b behind (loc_line p.place ∷ without (is_loc known (normal (a.path p.place))) behind))
          (loc-true known a p h) ∙ list_of_forest_of p.carried) i;
    })

place-back : (known : Known) (a : Around) (o : Option model.EventPlace) → HasShownPlace known a o
    → option_map (event_place_from known) (option_map (event_place_line a) o) ≡ o
place-back known a None h = refl
place-back known a (Some p) h = ap Some (event-place-back known a p h)

-- no place is sought
none-sought : (known : Known) (a : Around) (o : Option model.EventPlace) → HasShownPlace known a o
    → sought_on known (option_map (event_place_line a) o) ≡ None
none-sought known a None h = refl
none-sought known a (Some p) h = ap (unless_named (normal (a.path p.place))) (place-named known a p h)

-- ---- dates
pub date-read : (o : Option Date) → read_by dated (option_map date_text o) ≡ o
date-read None = refl
date-read (Some d) = ap date_of (sym (d.written (some_value d.text).0 (some_value d.text).1)) ∙ date_back (Some d)

no-date-text : (o : Option Date) → option_map date_text o ≡ None → is_some o ≡ false
no-date-text None e = refl
no-date-text (Some s) e = absurd cc

no-place-line : (a : Around) (o : Option model.EventPlace) → option_map (event_place_line a) o ≡ None
    → is_some o ≡ false
no-place-line a None e = refl
no-place-line a (Some s) e = absurd cc

-- ---- what an event owns
module _ (known : Known) where
  citations-are : (ts : List (Tree Record)) → EachOf (IsCitationBelow known) ts
      → Are (event_field known) a_citation (citation_lines ts)
  citations-are [] h = tt
  citations-are (node (kind.Citation c) f ∷ ts) h = (
    ap (λ b. row b a_citation carried) h.0.1.source,
    citations-are ts h.1,
  )
  citations-are (node _ f ∷ ts) h = absurd h.0

  citation-drafts : (ts : List (Tree Record)) → EachOf (IsCitationBelow known) ts
      → map citation_draft (citation_lines ts) ≡ map drafted ts
  citation-drafts [] h = refl
  citation-drafts (node (kind.Citation c) f ∷ ts) h =
      λ i. node (read (kind.Citation (citation_back c h.0.1.untaken i)) None)
      (sym (ap (relabel_all (λ r. read (apart r) None)) h.0.0) i) ∷ citation-drafts ts h.1 i
  citation-drafts (node _ f ∷ ts) h = absurd h.0

  below-skip : (is_placed : Bool) (x : Field) (ts us : Lines) → Are (event_field known) x ts
      → is_same x a_citation ≡ false → is_same x a_place ≡ false → below_event known is_placed (ts ++ us)
      ≡ below_event known is_placed us
  below-skip is_placed x [] us h c p = refl
  below-skip is_placed x (t ∷ ts) us h c p =
      let is-c : is_same (event_field known t) a_citation ≡ false = ap (λ y. is_same y a_citation) h.0 ∙ c in
      let is-p : is_same (event_field known t) a_place ≡ false = ap (λ y. is_same y a_place) h.0 ∙ p in
      ap (λ b. cond b (citation_draft t ∷ below_event known is_placed (ts ++ us))
      (cond (not is_placed && is_same (event_field known t) a_place)
      (sought_drafts (sought_on known (Some t)) ++ below_event known true (ts ++ us))
      (below_event known is_placed (ts ++ us)))) is-c
      ∙ ap (λ b. cond (not is_placed && b) (sought_drafts (sought_on known (Some t)) ++ below_event known true
      (ts ++ us)) (below_event known is_placed (ts ++ us))) is-p
      ∙ both-false is_placed (sought_drafts (sought_on known (Some t)) ++ below_event known true (ts ++ us))
      (below_event known is_placed (ts ++ us))
      ∙ below-skip is_placed x ts us h.1 c p
    where
      both-false : (b : Bool) (x y : List (Tree Draft)) → cond (not b && false) x y ≡ y
      both-false true x y = refl
      both-false false x y = refl

  below-citations : (is_placed : Bool) (ts us : Lines) → Are (event_field known) a_citation ts
      → below_event known is_placed (ts ++ us) ≡ map citation_draft ts ++ below_event known is_placed us
  below-citations is_placed [] us h = refl
  below-citations is_placed (t ∷ ts) us h =
      ap (λ b. cond b (citation_draft t ∷ below_event known is_placed (ts ++ us))
      (cond (not is_placed && is_same (event_field known t) a_place)
      (sought_drafts (sought_on known (Some t)) ++ below_event known true (ts ++ us))
      (below_event known is_placed (ts ++ us)))) (ap (λ y. is_same y a_citation) h.0)
      ∙ ap (λ ds. citation_draft t ∷ ds) (below-citations is_placed ts us h.1)

  -- lines that are left have no citation, and no place where none was read
  left-place : (t : Tree Line) (ts : Lines) (is_placed : Bool)
      → ((b : Bool) → (b ≡ false → all_of (event_field known) a_place ts ≡ []) → below_event known b ts ≡ [])
      → (is_placed ≡ false → all_of (event_field known) a_place (t ∷ ts) ≡ [])
      → cond (not is_placed && is_same (event_field known t) a_place)
      (sought_drafts (sought_on known (Some t)) ++ below_event known true ts) (below_event known is_placed ts) ≡ []
  left-place t ts true rest q = rest true (λ z. absurd cc)
  left-place t ts false rest q =
      let f = event_field known in
      elim (is_same (f t) a_place) as (λ b. cond b (t ∷ all_of f a_place ts) (all_of f a_place ts) ≡ []
      → cond b (sought_drafts (sought_on known (Some t)) ++ below_event known true ts)
      (below_event known false ts) ≡ []) [
        | true ↦ λ z. absurd cc
        | false ↦ λ z. rest false (λ y. z)
      ] (q refl)

  below-left : (is_placed : Bool) (ts : Lines) → all_of (event_field known) a_citation ts ≡ []
      → (is_placed ≡ false → all_of (event_field known) a_place ts ≡ []) → below_event known is_placed ts ≡ []
  below-left is_placed [] c p = refl
  below-left is_placed (t ∷ ts) c p =
      let f = event_field known in
      elim (is_same (f t) a_citation) as (λ b. cond b (t ∷ all_of f a_citation ts) (all_of f a_citation ts) ≡ []
      → cond b (citation_draft t ∷ below_event known is_placed ts)
      (cond (not is_placed && is_same (f t) a_place)
      (sought_drafts (sought_on known (Some t)) ++ below_event known true ts) (below_event known is_placed ts))
      ≡ []) [
        | true ↦ λ e. absurd cc
        | false ↦ λ e. left-place t ts is_placed (λ b q. below-left b ts e q) p
      ] c

  -- the place itself
  below-place : (a : Around) (o : Option model.EventPlace) (us : Lines) → HasShownPlace known a o
      → below_event known false (event_place_lines a o ++ us) ≡ below_event known (is_some o) us
  below-place a None us h = refl
  below-place a (Some p) us h =
      let t = event_place_line a p in
      let is : event_field known t ≡ a_place = place-is known a (Some p) h t refl in
      ap (λ y. cond (is_same y a_citation) (citation_draft t ∷ below_event known false us)
      (cond (is_same y a_place) (sought_drafts (sought_on known (Some t)) ++ below_event known true us)
      (below_event known false us))) is
      ∙ ap (λ o. sought_drafts o ++ below_event known true us) (none-sought known a (Some p) h)

event-kept : (e : model.Event) (x : Field) → event_leaves e x ≡ true → is_left (a_date ∷ a_place ∷ []) x ≡ true
event-kept c carried e = refl
event-kept c a_date e = refl
event-kept c a_place e = refl
event-kept c _ e = absurd cc

abbrev event_apart : model.Event → model.Event
event_apart e = record {
  owner = 0;
  tag = e.tag;
  value = e.value;
  date = e.date;
  place = e.place;
  participants = e.participants;
  carried = e.carried;
}

pub event_back : (known : Known) (a : Around) (e : model.Event) (under : List (Tree Record))
    → IsReadableEvent known a e under
    → event_draft known (line e.tag (value.Text e.value) (event_lines a e under)) ≡ node
    (read (kind.Event (event_apart e)) None) (forest_of (map drafted under))
event_back known a e under h =
    let f = event_field known in
    let once = a_date ∷ a_place ∷ [] in
    let c = e.carried in
    let q = citation_lines under in
    let ts = map participant_line e.participants in
    let po = option_map (event_place_line a) e.place in
    let ps = maybe po in
    let ds = text_lines (codes "DATE") (option_map date_text e.date) in
    let ls = event_lines a e under in
    let flat : list_of (forest_of ls) ≡ ls = list_of_forest_of ls in
    let are-q : Are f a_citation q = citations-are known under h.owned in
    let are-ts : Are f a_participant ts = participants-are known e.participants h.participants in
    let are-ps : Are f a_place ps = one_are f a_place po (place-is known a e.place h.place) in
    let are-ds : Are f a_date ds = text_are f a_date (codes "DATE") (option_map date_text e.date) (λ t z. refl) in
    let no-date : option_map date_text e.date ≡ None → all_of f a_date (ps ++ (ts ++ (q ++ c))) ≡ [] = λ z.
    all_skip f a_date a_place ps (ts ++ (q ++ c)) are-ps refl ∙ all_skip f a_date a_participant ts (q ++ c) are-ts refl
    ∙ all_skip f a_date a_citation q c are-q refl
    ∙ lacks f (event_leaves e) a_date c h.untaken (no-date-text e.date z) in
    let no-place : po ≡ None → all_of f a_place (ts ++ (q ++ c)) ≡ [] = λ z.
    all_skip f a_place a_participant ts (q ++ c) are-ts refl ∙ all_skip f a_place a_citation q c are-q refl
    ∙ lacks f (event_leaves e) a_place c h.untaken (no-place-line a e.place z) in
    let place-here : first (all_of f a_place ls) ≡ po =
    ap first (all_skip f a_place a_date ds (ps ++ (ts ++ (q ++ c))) are-ds refl) ∙ one_here f a_place po
    (ts ++ (q ++ c)) (place-is known a e.place h.place) refl no-place in
    let no-more : is_some e.place ≡ false → all_of f a_place c ≡ [] = λ z. lacks f (event_leaves e) a_place
    c h.untaken z in
    let owned : below_event known false ls ≡ map drafted under =
    below-skip known false a_date ds (ps ++ (ts ++ (q ++ c))) are-ds refl refl
    ∙ below-place known a e.place (ts ++ (q ++ c)) h.place
    ∙ below-skip known (is_some e.place) a_participant ts (q ++ c) are-ts refl refl
    ∙ below-citations known (is_some e.place) q c are-q
    ∙ (λ i. citation-drafts known under h.owned i ++ below-left known (is_some e.place) c
    (lacks f (event_leaves e) a_citation c h.untaken refl) no-more i)
    ∙ append-nil (map drafted under) in
    λ i. node (read (kind.Event (record {
      owner = 0;
      tag = e.tag;
      value = e.value;
      date = (ap (read_by dated) (ap (text_at f a_date) flat ∙ text_here f a_date (codes "DATE")
          (option_map date_text e.date) (ps ++ (ts ++ (q ++ c))) (λ t z. refl) refl no-date) ∙ date-read e.date) i;
      place = (ap (λ us. option_map (event_place_from known) (first (all_of f a_place us))) flat
          ∙ ap (option_map (event_place_from known)) place-here ∙ place-back known a e.place h.place) i;
      participants = (ap (λ us. map participant_from (all_of f a_participant us)) flat
          ∙ ap (map participant_from) (all_skip f a_participant a_date ds (ps ++ (ts ++ (q ++ c))) are-ds refl
          ∙ all_skip f a_participant a_place ps (ts ++ (q ++ c)) are-ps refl
          ∙ all_take f a_participant ts (q ++ c) are-ts refl
          (all_skip f a_participant a_citation q c are-q refl ∙ lacks f (event_leaves e) a_participant c h.untaken
          refl) ∙ append-nil ts)
          ∙ participants-back known e.participants h.participants) i;
      carried = (ap (left f once) flat
          ∙ ap (λ us. filter (λ t. is_left once (f t)) (without_first f a_place us))
          (out_first f a_date (codes "DATE") (option_map date_text e.date) (ps ++ (ts ++ (q ++ c)))
          (λ t z. refl) refl no-date)
          ∙ ap (filter (λ t. is_left once (f t)))
          (one_out f a_place po (ts ++ (q ++ c)) (place-is known a e.place h.place) refl no-place)
          ∙ keep_skip f (is_left once) a_participant ts (q ++ c) are-ts refl ∙ keep_skip f
          (is_left once) a_citation q c are-q refl
          ∙ kept_all f (is_left once) c (left_more f (event_leaves e) (is_left once) c (event-kept e) h.untaken)) i;
    })) ((ap (λ us. sought_on known (first (all_of f a_place us))) flat ∙ ap (sought_on known) place-here
    ∙ none-sought known a e.place h.place) i))
    (forest_of ((ap (below_event known false) flat ∙ owned) i))
