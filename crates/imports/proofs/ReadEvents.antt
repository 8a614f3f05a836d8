-- Events that are read from lines, with the citations below them, keep the rules on one record.
use Rattle.std.proofs.Common.{◌≡◌, ℕ, Bool, true, false, cond, List, [], ◌∷◌, ◌++◌, refl, arith}
use Rattle.std.specs.Prelude.{Option, Some, None, IfSome, ◌&&◌, not, bytes_eq, codes, map, option_map}
use Rattle.std.specs.List.{flat_map}
use Rattle.std.specs.Option.{unwrap_or}
use Rattle.std.proofs.lemmas.Bool.{and_parts}
use Rattle.stored_lines.specs.Tree.{Tree, forest_of}
use Rattle.stored_lines.specs.Line.{Line, Lines}
use Rattle.record_kinds.specs.Model as model
use Rattle.record_kinds.specs.declared.record.Record.{Record}
use Rattle.record_kinds.specs.declared.record.Record.TheVariants as kind
use Rattle.record_fields.specs.Bytes.{bytes_same}
use Rattle.record_fields.specs.Dated.{date_if, date_of, spelt}
use Rattle.archive_state.specs.Carried.{place_line_carried}
use Rattle.record_text.specs.Text.{IsText}
use Rattle.record_shapes.specs.declared.field.Field.{Field}
use Rattle.record_shapes.specs.Fields.{
  a_citation,
  a_date,
  a_participant,
  a_place,
  a_role,
  carried,
  event_field,
  is_same,
  participant_field,
}
use Rattle.record_shapes.specs.Forms.{Known, below, is_bare, is_empty, is_some, tag_of, tagged, text_of}
use Rattle.record_shapes.specs.Levels.{AreWithin}
use Rattle.record_shapes.specs.Lists.{EachOf}
use Rattle.record_shapes.specs.Paths.{normal}
use Rattle.record_shapes.specs.Picking.{all_of, first, is_left, text_at}
use Rattle.record_shapes.specs.Reading.{
  Draft,
  below_event,
  citation_draft,
  dated,
  event_draft,
  event_from,
  event_place_from,
  event_place_with,
  is_loc,
  participant_from,
  place_named,
  read_by,
  sought_drafts,
  sought_on,
}
use Rattle.record_shapes.specs.Tags.{is_event_tag}
use Rattle.record_shapes.specs.Untaken.{AreUntaken, event_leaves, participant_leaves}
use Rattle.archive_state.specs.Texts.{date_texts, there}
use Rattle.imports.specs.Read.{AllRead, EachRead, IsLine, IsRead}
use Rattle.imports.proofs.Fine.{
  AreLines,
  below_lines,
  each_left,
  each_of,
  empty_text,
  first_of_field,
  lines_deeper,
  lines_tags,
  lines_texts,
  lines_within,
  mapped_lines,
  tag_is,
  text_is,
  text_of_field,
}
use Rattle.imports.proofs.Left.{all_find, first_is, left_untaken, row_is, some_mapped}
use Rattle.imports.proofs.SoundLists.{each_without}
use Rattle.imports.proofs.ReadSources.{citation_read}
use Rattle.imports.proofs.Spelt.{spelt_text, spelt_twice}
use Rattle.record_shapes.proofs.Each.{each_both, each_flat, each_mapped}

-- ---- dates
if_spelt : (text : List ℕ) (b : Bool) (e : bytes_eq (spelt text) text ≡ b) → b ≡ true
    → is_some (date_if text b e) ≡ true
if_spelt text true e h = refl
if_spelt text false e h = absurd cc

-- a text has a date
dated_some : (text : List ℕ) → is_some (dated text) ≡ true
unfolding date_of
dated_some text = if_spelt (spelt text) (bytes_eq (spelt (spelt text)) (spelt text)) refl
    (bytes_same (spelt (spelt text)) (spelt text) (spelt_twice text))

date_there : (o : Option (Tree Line)) → is_some o ≡ true → is_some (read_by dated (option_map text_of o)) ≡ true
date_there None e = absurd cc
date_there (Some t) e = dated_some (text_of t)

if_texts : (text : List ℕ) (b : Bool) (e : bytes_eq (spelt text) text ≡ b) → IsText text
    → EachOf IsText (date_texts (date_if text b e))
if_texts text true e h = (h, tt)
if_texts text false e h = tt

pub date_of_texts : (text : List ℕ) → IsText text → EachOf IsText (date_texts (date_of text))
unfolding date_of
date_of_texts text h = if_texts text (bytes_eq (spelt text) text) refl h

date_read_texts : (o : Option (List ℕ)) → EachOf IsText (there o) → EachOf IsText (date_texts (read_by dated o))
date_read_texts None h = tt
date_read_texts (Some t) h = date_of_texts (spelt t) (spelt_text t h.0)

-- ---- who took part
role_met : (t : Tree Line) → is_same (participant_field t) a_role ≡ true → not (is_empty (text_of t)) ≡ true
role_met t e =
    (and_parts (is_bare t) (not (is_empty (text_of t)))
    (and_parts (tagged (codes "_ROLE") t) (is_bare t && not (is_empty (text_of t)))
    (row_is (tagged (codes "_ROLE") t && (is_bare t && not (is_empty (text_of t)))) a_role carried a_role e refl)).1).1

role_there : (o : Option (Tree Line)) → IfSome o (λ t. is_same (participant_field t) a_role ≡ true)
    → is_some o ≡ true → not (is_empty (unwrap_or (option_map text_of o) [])) ≡ true
role_there None h e = absurd cc
role_there (Some t) h e = role_met t h

participant_leaves_it : (p : model.Participant) (x : Field) → is_left (a_role ∷ []) x ≡ true
    → (x ≡ a_role → not (is_empty p.role) ≡ true) → participant_leaves p x ≡ true
participant_leaves_it p carried e h = refl
participant_leaves_it p a_role e h = h refl
participant_leaves_it p _ e h = absurd cc

participant_untaken : (t : Tree Line)
    → AreUntaken participant_field (participant_leaves (participant_from t)) (participant_from t).carried
participant_untaken t =
    let ts : Lines = below t in
    left_untaken participant_field (a_role ∷ []) (participant_leaves (participant_from t)) ts ts
    (λ u finds e. participant_leaves_it (participant_from t) (participant_field u) e
    (λ is. role_there (first (all_of participant_field a_role ts)) (first_is participant_field a_role ts)
    (finds a_role is))) (all_find participant_field ts)

participant_lines : (t : Tree Line) → IsLine 97 t → AreLines 96 (participant_from t).carried
participant_lines t h = each_left (IsLine 96) participant_field (a_role ∷ []) (below t) (below_lines 96 97 refl t h)

or_empty : (o : Option (List ℕ)) → EachOf IsText (there o) → IsText (unwrap_or o [])
or_empty None h = empty_text
or_empty (Some t) h = h.0

role_text : (t : Tree Line) → IsLine 97 t → IsText (participant_from t).role
role_text t h = or_empty (text_at participant_field a_role (below t))
    (text_of_field 96 participant_field a_role (below t) (below_lines 96 97 refl t h))

-- ---- the place of an event
place_with_lines : (known : Known) (t : Tree Line) (o : Option (Tree Line)) → AreLines 96 (below t)
    → AreLines 96 (event_place_with known t o).carried
place_with_lines known t None h = h
place_with_lines known t (Some loc) h = each_without (IsLine 96) (is_loc known (normal (text_of t))) (below t) h

place_lines : (known : Known) (o : Option (Tree Line)) → IfSome o (IsLine 97)
    → IfSome (option_map (event_place_from known) o) (λ (p : model.EventPlace). AreLines 96 p.carried)
place_lines known None h = tt
place_lines known (Some t) h = place_with_lines known t (place_named known t) (below_lines 96 97 refl t h)

place_line_lines : (o : Option model.EventPlace) → IfSome o (λ (p : model.EventPlace). AreLines 96 p.carried)
    → AreLines 97 (place_line_carried o)
place_line_lines None h = tt
place_line_lines (Some p) h = lines_deeper 96 97 (omega arith) p.carried h

place_room : (o : Option model.EventPlace) → IfSome o (λ (p : model.EventPlace). AreLines 96 p.carried)
    → IfSome o (λ (p : model.EventPlace). AreWithin 96 p.carried)
place_room None h = tt
place_room (Some p) h = lines_within 96 p.carried h

-- ---- events
event_leaves_it : (e : model.Event) (x : Field) → is_left (a_date ∷ a_place ∷ []) x ≡ true
    → (x ≡ a_date → is_some e.date ≡ true) → (x ≡ a_place → is_some e.place ≡ true) → event_leaves e x ≡ true
event_leaves_it e carried h d p = refl
event_leaves_it e a_date h d p = d refl
event_leaves_it e a_place h d p = p refl
event_leaves_it e _ h d p = absurd cc

event_untaken : (known : Known) (t : Tree Line)
    → AreUntaken (event_field known) (event_leaves (event_from known t)) (event_from known t).carried
event_untaken known t =
    let field : Tree Line → Field = event_field known in
    let e : model.Event = event_from known t in
    let ts : Lines = below t in
    left_untaken field (a_date ∷ a_place ∷ []) (event_leaves e) ts ts
    (λ u finds k. event_leaves_it e (field u) k
    (λ is. date_there (first (all_of field a_date ts)) (finds a_date is))
    (λ is. some_mapped (event_place_from known) (first (all_of field a_place ts)) (finds a_place is)))
    (all_find field ts)

pub event_read : (earlier known : Known) (o : Record) (t : Tree Line) → is_event_tag (tag_of t) o ≡ true → IsLine 98 t
    → IsRead earlier known (Some o) (kind.Event (event_from known t))
event_read earlier known o t tag h =
    let field : Tree Line → Field = event_field known in
    let e : model.Event = event_from known t in
    let ts : Lines = below t in
    let fine : AreLines 97 ts = below_lines 97 98 refl t h in
    let of : Lines = all_of field a_participant ts in
    let kept : AreLines 97 of = each_of (IsLine 97) field a_participant ts fine in
    let lines : AreLines 97 e.carried = each_left (IsLine 97) field (a_date ∷ a_place ∷ []) ts fine in
    let placed : IfSome e.place (λ (p : model.EventPlace). AreLines 96 p.carried) =
    place_lines known (first (all_of field a_place ts)) (first_of_field (IsLine 97) field a_place ts fine) in
    let parts : AreLines 97 (flat_map (λ (p : model.Participant). p.carried) e.participants) =
    each_flat (IsLine 97) (λ (p : model.Participant). p.carried) e.participants
    (mapped_lines 97 (λ (p : model.Participant). AreLines 97 p.carried) participant_from
    (λ u k. lines_deeper 96 97 (omega arith) (participant_from u).carried (participant_lines u k)) of kept) in
    let all : AreLines 97 (place_line_carried e.place
    ++ (flat_map (λ (p : model.Participant). p.carried) e.participants ++ e.carried)) =
    each_both (IsLine 97) (place_line_carried e.place) _ (place_line_lines e.place placed)
    (each_both (IsLine 97) (flat_map (λ (p : model.Participant). p.carried) e.participants) e.carried parts lines) in
    let roles : EachOf IsText (map (λ (p : model.Participant). p.role) e.participants) =
    each_mapped IsText (λ (p : model.Participant). p.role) e.participants
    (mapped_lines 97 (λ (p : model.Participant). IsText p.role) participant_from role_text of kept) in
    record {
      normal = tt;
      once = tt;
      of_tags = (tag_is 98 t h, lines_tags 97 _ all);
      trailers = tt;
      of_texts = (
        text_is 98 t h,
        each_both IsText (date_texts e.date ++ map (λ (p : model.Participant). p.role) e.participants) _
            (each_both IsText (date_texts e.date) _
            (date_read_texts (text_at field a_date ts) (text_of_field 97 field a_date ts fine)) roles)
            (lines_texts 97 _ all),
      );
      events = tag;
      mentions = tt;
      untaken = (
        mapped_lines 97
            (λ (p : model.Participant). AreUntaken participant_field (participant_leaves p) p.carried)
            participant_from (λ u k. participant_untaken u) of kept,
        event_untaken known t,
      );
      shapes = tt;
      room = (
        place_room e.place placed,
        mapped_lines 97 (λ (p : model.Participant). AreWithin 96 p.carried) participant_from
            (λ u k. lines_within 96 (participant_from u).carried (participant_lines u k)) of kept,
        lines_within 97 e.carried lines,
      );
    }

-- ---- with what is below it
module _ (P : Option Record → Record → Type 0) (owner : Option Record) where
  pub read_both : (xs ys : List (Tree Draft)) → AllRead P owner (forest_of xs) → AllRead P owner (forest_of ys)
      → AllRead P owner (forest_of (xs ++ ys))
  read_both [] ys h k = k
  read_both (x ∷ xs) ys h k = (h.0, read_both xs ys h.1 k)

  pub sought_read : (o : Option (List ℕ)) → AllRead P owner (forest_of (sought_drafts o))
  sought_read None = tt
  sought_read (Some path) = (tt, tt)

below_event_read : (earlier known : Known) (e : model.Event) (done : Bool) (ts : Lines) → AreLines 97 ts
    → AllRead (IsRead earlier known) (Some (kind.Event e)) (forest_of (below_event known done ts))
below_event_read earlier known e done [] h = tt
below_event_read earlier known e done (t ∷ ts) h =
    let P : Option Record → Record → Type 0 = IsRead earlier known in
    let owner : Option Record = Some (kind.Event e) in
    elim (is_same (event_field known t) a_citation) as (λ b. AllRead P owner (forest_of
    (cond b (citation_draft t ∷ below_event known done ts)
    (cond (not done && is_same (event_field known t) a_place)
    (sought_drafts (sought_on known (Some t)) ++ below_event known true ts) (below_event known done ts))))) [
      | true ↦ (
        (citation_read earlier known owner 96 97 refl refl t h.0, tt),
        below_event_read earlier known e done ts h.1,
      )
      | false ↦ elim (not done && is_same (event_field known t) a_place) as (λ b. AllRead P owner (forest_of
          (cond b (sought_drafts (sought_on known (Some t)) ++ below_event known true ts)
          (below_event known done ts)))) [
            | true ↦ read_both P owner (sought_drafts (sought_on known (Some t))) (below_event known true ts)
                (sought_read P owner (sought_on known (Some t))) (below_event_read earlier known e true ts h.1)
            | false ↦ below_event_read earlier known e done ts h.1
          ]
    ]

pub event_draft_read : (earlier known : Known) (o : Record) (t : Tree Line) → is_event_tag (tag_of t) o ≡ true
    → IsLine 98 t → EachRead (IsRead earlier known) (Some o) (event_draft known t)
event_draft_read earlier known o t tag h = (
  event_read earlier known o t tag h,
  below_event_read earlier known (event_from known t) false (below t) (below_lines 97 98 refl t h),
)
