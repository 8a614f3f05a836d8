-- Events read from their lines, one line after the other.
use Rattle.std.specs.Prelude.{
  ℕ,
  ◌≡◌,
  ◌&&◌,
  ◌||◌,
  not,
  cond,
  Bool,
  true,
  false,
  List,
  [],
  ◌∷◌,
  ◌++◌,
  map,
  Option,
  Some,
  None,
  option_map,
  codes,
  if◌then◌else◌,
  refl,
}
use Rattle.std.specs.List.{filter}
use Rattle.std.specs.Option.{unwrap_or, is_some as some_there}
use Rattle.std.proofs.Common.{ap, sym, ◌∙◌, append_assoc}
use Rattle.stored_lines.specs.Tree.{Tree, node, none as no_more}
use Rattle.stored_lines.specs.Line.{Line, Lines}
use Rattle.record_kinds.specs.Model as model
use Rattle.record_shapes.specs.Paths.{normal}
use Rattle.record_shapes.specs.declared.field.Field.{Field}
use Rattle.record_shapes.specs.Forms.{
  Known,
  below,
  is_bare,
  is_some,
  is_text,
  names_a,
  number_of,
  tagged,
  text_of,
  value_of,
}
use Rattle.record_shapes.specs.Fields.{
  a_citation,
  a_date,
  a_participant,
  a_place,
  carried,
  event_field,
  is_citation,
  is_place_text,
  is_same,
  row,
}
use Rattle.record_shapes.specs.Picking.{all_of, first, is_left}
use Rattle.record_shapes.specs.Reading.{
  below_event,
  citation_draft,
  citation_from,
  event_place_from,
  event_place_with,
  is_loc,
  participant_from,
  place_named,
  sought,
  sought_drafts,
  sought_on,
  unless_named,
  without,
}
use Rattle.node_reading.specs.Partly.{or_told, unless}
use Rattle.node_reading.specs.Drafts.{EventTold, event_with, part_draft, path_in, unless_placed}
use Rattle.node_reading.specs.declared.events.EventPart.{EventPart}
use Rattle.node_reading.specs.declared.events.EventPart.TheVariants as part
use Rattle.node_reading.proofs.Picked.{
  all_here,
  all_past,
  is_first,
  left_closed,
  left_gone,
  left_kept,
  missing_more,
  missing_one,
  not_first,
  other_field,
  row_is,
  told_same,
}

-- ---- parts
pub path_cited : (ps : List EventPart) (c : model.Citation) → path_in (ps ++ part.Citation c ∷ []) ≡ path_in ps
path_cited [] c = refl
path_cited (part.Citation d ∷ ps) c = path_cited ps c
path_cited (part.Sought path ∷ ps) c = refl

pub path_put : (ps : List EventPart) (p : EventPart) (path : List ℕ) → path_in (p ∷ []) ≡ Some path
    → path_in (ps ++ p ∷ []) ≡ or_told (path_in ps) (Some path)
path_put [] p path e = e
path_put (part.Citation d ∷ ps) p path e = path_put ps p path e
path_put (part.Sought x ∷ ps) p path e = refl

told_end : {A : Type 0} (o : Option A) → or_told o None ≡ o
told_end None = refl
told_end (Some a) = refl

-- ---- fields
is_of_event : Field → Bool
is_of_event x = is_left (a_date ∷ a_place ∷ []) x || (is_same x a_participant || is_same x a_citation)

event_fields : (known : Known) (t : Tree Line) → is_of_event (event_field known t) ≡ true
unfolding is_of_event
event_fields known t =
    let citation : Bool = is_citation known t in
    let participant : Bool = tagged (codes "_PART") t && names_a (codes "INDI") known (value_of t) in
    let place : Bool = tagged (codes "PLAC") t && (is_text t && is_place_text (text_of t)) in
    row_is (λ x. is_of_event x) (tagged (codes "DATE") t && is_bare t) a_date
    (row place a_place (row participant a_participant (row citation a_citation carried))) refl
    (row_is (λ x. is_of_event x) place a_place (row participant a_participant (row citation a_citation carried)) refl
    (row_is (λ x. is_of_event x) participant a_participant (row citation a_citation carried) refl
    (row_is (λ x. is_of_event x) citation a_citation carried refl refl)))

or_left : (a b c : Bool) → (a || (b || c)) ≡ true → b ≡ false → c ≡ false → a ≡ true
or_left true b c e n m = refl
or_left false true c e n m = absurd (let wrong : true ≡ false = n in cc)
or_left false false c e n m = absurd (let wrong : true ≡ false = sym e ∙ m in cc)

carried_field : (known : Known) (t : Tree Line) → is_same (event_field known t) a_participant ≡ false
    → is_same (event_field known t) a_citation ≡ false
    → is_left (a_date ∷ a_place ∷ []) (event_field known t) ≡ true
unfolding is_of_event
carried_field known t n m = or_left (is_left (a_date ∷ a_place ∷ []) (event_field known t))
    (is_same (event_field known t) a_participant) (is_same (event_field known t) a_citation) (event_fields known t) n m

-- a field that a record may have often is not left
often : (x y : Field) → is_same x y ≡ true → is_left (a_date ∷ a_place ∷ []) y ≡ false
    → (a_date_other : is_same x a_date ≡ false) → is_same x a_place ≡ false → is_same x carried ≡ false
    → is_left (a_date ∷ a_place ∷ []) x ≡ false
often x y e n d p c = λ i. c i || (d i || (p i || false))

module _ (known : Known) (t : Tree Line) (ts : Lines) where
  -- ---- what is below the event
  below_past : (p : Bool) → is_same (event_field known t) a_citation ≡ false
      → (not p && is_same (event_field known t) a_place) ≡ false
      → below_event known p ts ≡ below_event known p (t ∷ ts)
  below_past p n m = λ i. if sym n i then citation_draft t ∷ below_event known p ts
      else (if sym m i then sought_drafts (sought_on known (Some t)) ++ below_event known true ts
      else below_event known p ts)

  below_cited : (p : Bool) → is_same (event_field known t) a_citation ≡ true
      → citation_draft t ∷ below_event known p ts ≡ below_event known p (t ∷ ts)
  below_cited p n = λ i. if sym n i then citation_draft t ∷ below_event known p ts
      else (if not p && is_same (event_field known t) a_place
      then sought_drafts (sought_on known (Some t)) ++ below_event known true ts else below_event known p ts)

  below_placed : is_same (event_field known t) a_citation ≡ false → is_same (event_field known t) a_place ≡ true
      → sought_drafts (sought_on known (Some t)) ++ below_event known true ts ≡ below_event known false (t ∷ ts)
  below_placed n m = λ i. if sym n i then citation_draft t ∷ below_event known false ts
      else (if sym m i then sought_drafts (sought_on known (Some t)) ++ below_event known true ts
      else below_event known false ts)

  -- ---- a line that is not of the place
  place_past : (o : Option model.EventPlace) → is_same (event_field known t) a_place ≡ false
      → or_told o (option_map (event_place_from known) (first (all_of (event_field known) a_place ts)))
      ≡ or_told o (option_map (event_place_from known) (first (all_of (event_field known) a_place (t ∷ ts))))
  place_past o n = ap (λ us. or_told o (option_map (event_place_from known) (first us)))
      (all_past (event_field known) a_place t ts n)

  path_past : (o : Option model.EventPlace) (p : Option (List ℕ)) → is_same (event_field known t) a_place ≡ false
      → or_told p (unless_placed o (sought_on known (first (all_of (event_field known) a_place ts))))
      ≡ or_told p (unless_placed o (sought_on known (first (all_of (event_field known) a_place (t ∷ ts)))))
  path_past o p n = ap (λ us. or_told p (unless_placed o (sought_on known (first us))))
      (all_past (event_field known) a_place t ts n)

  not_and : (p b : Bool) → b ≡ false → (not p && b) ≡ false
  not_and true b e = refl
  not_and false b e = e

  pub citation_taken : (e : EventTold) → is_same (event_field known t) a_citation ≡ true
      → event_with known (record {
        date = e.date;
        place = e.place;
        participants = e.participants;
        carried = e.carried;
        path = e.path;
        drafts = e.drafts ++ citation_draft t ∷ [];
      }) ts ≡ event_with known e (t ∷ ts)
  citation_taken e here =
      let x : Field = event_field known t in
      let place : is_same x a_place ≡ false = other_field x a_citation a_place here refl in
      let date : is_same x a_date ≡ false = other_field x a_citation a_date here refl in
      let participant : is_same x a_participant ≡ false = other_field x a_citation a_participant here refl in
      let none : is_same x carried ≡ false = other_field x a_citation carried here refl in
      λ i. record {
        date = told_same (event_field known) (λ o. o) a_date e.date t ts (not_first x a_date e.date date) i;
        place = place_past e.place place i;
        participants = e.participants ++ map participant_from
            (all_past (event_field known) a_participant t ts participant i);
        carried = e.carried ++ left_gone (event_field known) (a_date ∷ a_place ∷ [])
            (unless e.date a_date ++ unless e.place a_place) t ts
            (often x a_citation here refl date place none)
            (missing_more x a_date e.date (unless e.place a_place) (not_first x a_date e.date date)
            (missing_one x a_place e.place (not_first x a_place e.place place))) i;
        path = path_past e.place e.path place i;
        drafts = (append_assoc e.drafts (citation_draft t ∷ []) (below_event known (is_some e.place) ts)
            ∙ ap (λ us. e.drafts ++ us) (below_cited (is_some e.place) here)) i;
      }

  pub line_carried : (e : EventTold) → is_first (event_field known t) a_date e.date ≡ false
      → is_same (event_field known t) a_participant ≡ false → is_same (event_field known t) a_citation ≡ false
      → is_same (event_field known t) a_place ≡ false
      → event_with known (record {
        date = e.date;
        place = e.place;
        participants = e.participants;
        carried = e.carried ++ t ∷ [];
        path = e.path;
        drafts = e.drafts;
      }) ts ≡ event_with known e (t ∷ ts)
  line_carried e h participant citation place =
      let x : Field = event_field known t in
      λ i. record {
        date = told_same (event_field known) (λ o. o) a_date e.date t ts h i;
        place = place_past e.place place i;
        participants = e.participants ++ map participant_from
            (all_past (event_field known) a_participant t ts participant i);
        carried = left_kept (event_field known) e.carried (a_date ∷ a_place ∷ [])
            (unless e.date a_date ++ unless e.place a_place) t ts (carried_field known t participant citation)
            (missing_more x a_date e.date (unless e.place a_place) h
            (missing_one x a_place e.place (not_first x a_place e.place place))) i;
        path = path_past e.place e.path place i;
        drafts = e.drafts ++ below_past (is_some e.place) citation (not_and (is_some e.place) (is_same x a_place) place)
            i;
      }

  -- ---- a line of the place
  -- the first one is the place of the event
  pub place_taken : (e : EventTold) → e.place ≡ None → event_field known t ≡ a_place
      → event_with known (record {
        date = e.date;
        place = Some (event_place_from known t);
        participants = e.participants;
        carried = e.carried;
        path = or_told e.path (sought_on known (Some t));
        drafts = e.drafts ++ sought_drafts (sought_on known (Some t));
      }) ts ≡ event_with known e (t ∷ ts)
  place_taken e none is =
      let x : Field = event_field known t in
      let date : is_same x a_date ≡ false = ap (λ y. is_same y a_date) is in
      let place : is_same x a_place ≡ true = ap (λ y. is_same y a_place) is in
      let citation : is_same x a_citation ≡ false = ap (λ y. is_same y a_citation) is in
      let participant : is_same x a_participant ≡ false = ap (λ y. is_same y a_participant) is in
      let first_one : Some t ≡ first (all_of (event_field known) a_place (t ∷ ts)) =
      ap first (all_here (event_field known) a_place t ts place) in
      (λ i. record {
        date = told_same (event_field known) (λ o. o) a_date e.date t ts (not_first x a_date e.date date) i;
        place = option_map (event_place_from known) (first_one i);
        participants = e.participants ++ map participant_from
            (all_past (event_field known) a_participant t ts participant i);
        carried = e.carried ++ left_closed (event_field known) (a_date ∷ a_place ∷ []) a_place (unless e.date a_date) []
            t
            ts place (missing_one x a_date e.date (not_first x a_date e.date date)) i;
        path = (told_end (or_told e.path (sought_on known (Some t)))
            ∙ ap (λ o. or_told e.path (sought_on known o)) first_one) i;
        drafts = (append_assoc e.drafts (sought_drafts (sought_on known (Some t))) (below_event known true ts)
            ∙ ap (λ us. e.drafts ++ us) (below_placed citation place)) i;
      }) ∙ ap (λ (o : Option model.EventPlace). event_with known (record {
        date = e.date;
        place = o;
        participants = e.participants;
        carried = e.carried;
        path = e.path;
        drafts = e.drafts;
      }) (t ∷ ts)) (sym none)

-- ---- the line that names the place
module _ (P : Tree Line → Bool) where
  pub without_none : (ts : Lines) → first (filter P ts) ≡ None → without P ts ≡ ts
  without_none [] e = refl
  without_none (t ∷ ts) e = elim (P t) as (λ b. first (cond b (t ∷ filter P ts) (filter P ts)) ≡ None
      → cond b ts (t ∷ without P ts) ≡ t ∷ ts) [
        | true ↦ λ h. absurd cc
        | false ↦ λ h. ap (λ us. t ∷ us) (without_none ts h)
      ] e

abbrev pub placed_at : ℕ → Lines → model.EventPlace
placed_at n rest = record { place = n; carried = rest }

-- the place of the event, by what is below its line
pub place_told : (known : Known) (t : Tree Line) (path : List ℕ) (o : Option ℕ) (rest : Lines) → path
    ≡ normal (text_of t)
    → o ≡ option_map number_of (first (filter (is_loc known path) (below t)))
    → rest ≡ without (is_loc known path) (below t)
    → placed_at (unwrap_or o 0) rest ≡ event_place_from known t
place_told known t path o rest e h k =
    (λ i. placed_at (unwrap_or (h i) 0) (k i))
    ∙ ap (λ p. placed_at (unwrap_or (option_map number_of (first (filter (is_loc known p) (below t)))) 0)
    (without (is_loc known p) (below t))) e
    ∙ cases_of (first (filter (is_loc known (normal (text_of t))) (below t))) refl
  where
    cases_of : (f : Option (Tree Line)) → first (filter (is_loc known (normal (text_of t))) (below t)) ≡ f
        → placed_at (unwrap_or (option_map number_of f) 0) (without (is_loc known (normal (text_of t))) (below t))
        ≡ event_place_with known t f
    cases_of None f = λ i. placed_at 0 (without_none (is_loc known (normal (text_of t))) (below t) f i)
    cases_of (Some loc) f = refl

-- whether a line names the place
pub sought_none : (known : Known) (t : Tree Line) (path : List ℕ) (o : Option ℕ) → path ≡ normal (text_of t)
    → o ≡ option_map number_of (first (filter (is_loc known path) (below t))) → o ≡ None
    → sought_on known (Some t) ≡ Some path
sought_none known t path o e h n =
    cases_of (place_named known t) (sym (ap (λ p. option_map number_of (first (filter (is_loc known p) (below t)))) e)
    ∙ sym h ∙ n) ∙ ap Some (sym e)
  where
    cases_of : (f : Option (Tree Line)) → option_map number_of f ≡ None → unless_named (normal (text_of t)) f
        ≡ Some (normal (text_of t))
    cases_of None g = refl
    cases_of (Some loc) g = absurd cc

-- ---- what is pushed
abbrev pub with_parts : EventTold → List EventPart → EventTold
with_parts e ps = record {
  date = e.date;
  place = e.place;
  participants = e.participants;
  carried = e.carried;
  path = path_in ps;
  drafts = map part_draft ps;
}

parts_end : (ps : List EventPart) (p : EventPart) → map part_draft (ps ++ p ∷ []) ≡ map part_draft ps ++ part_draft p
    ∷ []
parts_end [] p = refl
parts_end (x ∷ ps) p = ap (λ l. part_draft x ∷ l) (parts_end ps p)

pub citation_pushed : (known : Known) (t : Tree Line) (ts : Lines) (e : EventTold) (ps qs : List EventPart)
    (c : model.Citation) → qs ≡ ps ++ part.Citation c ∷ [] → c ≡ citation_from t
    → is_same (event_field known t) a_citation ≡ true
    → event_with known (with_parts e qs) ts ≡ event_with known (with_parts e ps) (t ∷ ts)
citation_pushed known t ts e ps qs c h k here =
    ap (λ l. event_with known (with_parts e l) ts) (h ∙ ap (λ (x : model.Citation). ps ++ part.Citation x ∷ []) k)
    ∙ (λ i. event_with known (record {
      date = e.date;
      place = e.place;
      participants = e.participants;
      carried = e.carried;
      path = path_cited ps (citation_from t) i;
      drafts = parts_end ps (part.Citation (citation_from t)) i;
    }) ts)
    ∙ citation_taken known t ts (with_parts e ps) here

-- a place that no line names is sought by its path
pub sought_pushed : (known : Known) (t : Tree Line) (ts : Lines) (e : EventTold) (ps qs : List EventPart)
    (p : EventPart)
    (path : List ℕ) (o : Option ℕ) (rest : Lines) → qs ≡ ps ++ p ∷ [] → path_in (p ∷ []) ≡ Some path
    → part_draft p ≡ node (sought path) no_more → e.place ≡ None → event_field known t ≡ a_place
    → path ≡ normal (text_of t) → o ≡ option_map number_of (first (filter (is_loc known path) (below t)))
    → rest ≡ without (is_loc known path) (below t) → o ≡ None
    → event_with known (record {
      date = e.date;
      place = Some (placed_at 0 rest);
      participants = e.participants;
      carried = e.carried;
      path = path_in qs;
      drafts = map part_draft qs;
    }) ts ≡ event_with known (with_parts e ps) (t ∷ ts)
sought_pushed known t ts e ps qs p path o rest pushed in_p draft none is said number left no_loc =
    let s : Some path ≡ sought_on known (Some t) = sym (sought_none known t path o said number no_loc) in
    let place : placed_at 0 rest ≡ event_place_from known t =
    ap (λ x. placed_at (unwrap_or x 0) rest) (sym no_loc) ∙ place_told known t path o rest said number left in
    (λ i. event_with known (record {
      date = e.date;
      place = Some (place i);
      participants = e.participants;
      carried = e.carried;
      path = (ap path_in pushed ∙ path_put ps p path in_p ∙ ap (or_told (path_in ps)) s) i;
      drafts = (ap (λ l. map part_draft l) pushed ∙ parts_end ps p ∙ ap (λ d. map part_draft ps ++ d ∷ []) draft
          ∙ ap (λ x. map part_draft ps ++ sought_drafts x) s) i;
    }) ts) ∙ place_taken known t ts (with_parts e ps) none is

pub none_there : {A : Type 0} (o : Option A) → some_there o ≡ false → o ≡ None
none_there None e = refl
none_there (Some a) e = absurd (let wrong : true ≡ false = e in cc)
