-- An event with another value, date or place is fit for a sound archive.
use Rattle.std.proofs.Common.{◌≡◌, ℕ, List, [], ◌∷◌, ◌++◌, Bool, true, false, not, ◌&&◌, map, refl}
use Rattle.std.specs.Prelude.{Option, Some, None, IfSome, option_map}
use Rattle.std.specs.FinMap.{get}
use Rattle.std.specs.List.{flat_map, list_any}
use Rattle.record_text.specs.Text.{IsText}
use Rattle.stored_lines.specs.Tree.{Tree}
use Rattle.stored_lines.specs.Line.{Line, Lines}
use Rattle.record_fields.specs.declared.date.Date.{Date}
use Rattle.record_kinds.specs.Model as model
use Rattle.record_kinds.specs.declared.record.Record.TheVariants as kind
use Rattle.corrections.specs.Corrections.{place_with}
use Rattle.archive_state.specs.Carried.{place_line_carried}
use Rattle.archive_state.specs.Content.{Content}
use Rattle.archive_state.specs.Known.{known_before, known_of}
use Rattle.archive_state.specs.Links.{Link, a_place, carried_links, links, participant_links, place_line_links}
use Rattle.archive_state.specs.Paths.{HasPath}
use Rattle.archive_state.specs.Sound.{HasEventTag, HasSaidPlace, IsOfRecords, IsSound, Stands, own_tags, owner_in}
use Rattle.archive_state.specs.Texts.{date_texts, own_texts}
use Rattle.record_shapes.specs.Fields.{event_field}
use Rattle.record_shapes.specs.Forms.{is_some}
use Rattle.record_shapes.specs.Levels.{AreWithin, HasRoom}
use Rattle.record_shapes.specs.Lists.{EachOf}
use Rattle.record_shapes.specs.Paths.{has_part}
use Rattle.record_shapes.specs.Untaken.{AreUntaken, HasUntaken, event_leaves}
use Rattle.record_shapes.proofs.Each.{each_back, each_both, each_front}
use Rattle.list_laws.proofs.Booleans.{neither}
use Rattle.record_changes.proofs.Alike.{events_alike}
use Rattle.record_changes.proofs.Fitting.{IsLeft, not_fresh, over, own_tags_of, own_texts_of, tags_left, texts_left}
use Rattle.record_changes.proofs.Keeping.{IsFit}
use Rattle.field_changes.specs.Carrying.{is_date, is_place, still_carried}
use Rattle.record_shapes.proofs.Limits.{none_within}
use Rattle.field_changes.proofs.Leaving.{event_left, event_same}

pub event_fits : (c : Content) (n : ℕ) (e f : model.Event) → IsSound c → get c.records n ≡ Some (kind.Event e)
    → EachOf (Stands c.records) (links (kind.Event f)) → IsLeft (kind.Event e) (kind.Event f)
    → EachOf IsOfRecords (own_tags (kind.Event f)) → EachOf IsText (own_texts (kind.Event f))
    → HasSaidPlace c.records (kind.Event f) → HasEventTag c.records (kind.Event f)
    → HasUntaken (known_before c.records n) (known_of c.records) (kind.Event f)
    → HasRoom (owner_in c.records (kind.Event f)) (kind.Event f) → IsFit c n (kind.Event f)
event_fits c n e f sound at named left own texts said tag untaken levels = record {
  alike = over c n (kind.Event e) (kind.Event f) at (events_alike e f);
  fresh = not_fresh c n (kind.Event e) at;
  no_place = λ x h. absurd cc;
  keys = λ x h k there. absurd cc;
  no_other = λ x h. absurd cc;
  named = named;
  parents = tt;
  normal = tt;
  once = tt;
  data_tags = tags_left c n (kind.Event e) (kind.Event f) sound at left own;
  trailers = tt;
  texts = texts_left c n (kind.Event e) (kind.Event f) sound at left texts;
  places = said;
  events = tag;
  mentions = tt;
  untaken = untaken;
  levels = levels;
}

-- ---- another value
pub value_fits : (c : Content) (n : ℕ) (e : model.Event) (t : List ℕ) → IsSound c
    → get c.records n ≡ Some (kind.Event e) → IsText t
    → IsFit c n (kind.Event (record e { value = t }))
value_fits c n e t sound at is =
    event_fits c n e (record e { value = t }) sound at (sound.named n (kind.Event e) at) (λ Q h. h)
    (own_tags_of c n (kind.Event e) sound at) (is, (own_texts_of c n (kind.Event e) sound at).1)
    (sound.rules.places n (kind.Event e) at) (sound.rules.events n (kind.Event e) at) (
      (sound.rules.untaken n (kind.Event e) at).0,
      event_same (known_of c.records) e (record e { value = t }) refl refl
          e.carried (sound.rules.untaken n (kind.Event e) at).1,
    )
    (sound.rules.levels n (kind.Event e) at)

-- ---- another date
pub date_fits : (c : Content) (n : ℕ) (e : model.Event) (d : Option Date) → IsSound c
    → get c.records n ≡ Some (kind.Event e) → EachOf IsText (date_texts d)
    → still_carried (kind.Event (record e { date = d })) ≡ false
    → IsFit c n (kind.Event (record e { date = d }))
date_fits c n e d sound at dated none =
    let f : model.Event = record e { date = d } in
    let roles : List (List ℕ) = map (λ (p : model.Participant). p.role) e.participants in
    let texts = own_texts_of c n (kind.Event e) sound at in
    let apart = neither (not (is_some f.date) && list_any is_date e.carried)
    (not (is_some f.place) && list_any is_place e.carried) none in
    event_fits c n e f sound at (sound.named n (kind.Event e) at) (λ Q h. h)
    (own_tags_of c n (kind.Event e) sound at)
    (texts.0, each_both IsText (date_texts d) roles dated (each_back IsText (date_texts e.date) roles texts.1))
    (sound.rules.places n (kind.Event e) at) (sound.rules.events n (kind.Event e) at) (
      (sound.rules.untaken n (kind.Event e) at).0,
      event_left (known_of c.records) e f e.carried apart.0 apart.1
          (sound.rules.untaken n (kind.Event e) at).1,
    )
    (sound.rules.levels n (kind.Event e) at)

-- ---- another place
-- a place stands there whose path has a part that is not empty, where a number is given
abbrev pub PlaceAt : Content → Option ℕ → Type 0
PlaceAt c None = Unit {0}
PlaceAt c (Some n) = Stands c.records (n, a_place) × ((path : List ℕ) → HasPath c.records n path → has_part path ≡ true)

placed_links : (c : Content) (place : Option ℕ) (p : Option model.EventPlace) → PlaceAt c place
    → EachOf (Stands c.records) (place_line_links p) → EachOf (Stands c.records) (place_line_links (place_with place p))
placed_links c None p h old = tt
placed_links c (Some n) None h old = (h.0, tt)
placed_links c (Some n) (Some p) h old = (h.0, old.1)

placed_carried : (Q : Tree Line → Type 0) (place : Option ℕ) (p : Option model.EventPlace)
    → EachOf Q (place_line_carried p) → EachOf Q (place_line_carried (place_with place p))
placed_carried Q None p h = tt
placed_carried Q (Some n) None h = tt
placed_carried Q (Some n) (Some p) h = h

placed_said : (c : Content) (place : Option ℕ) (p : Option model.EventPlace) → PlaceAt c place
    → IfSome (option_map (λ (x : model.EventPlace). x.place) (place_with place p))
    (λ k. (path : List ℕ) → HasPath c.records k path → has_part path ≡ true)
placed_said c None p h = tt
placed_said c (Some n) None h = h.1
placed_said c (Some n) (Some p) h = h.1

placed_room : (place : Option ℕ) (p : Option model.EventPlace)
    → IfSome p (λ (x : model.EventPlace). AreWithin 96 x.carried) → IfSome (place_with place p)
    (λ (x : model.EventPlace). AreWithin 96 x.carried)
placed_room None p h = tt
placed_room (Some n) None h = none_within 96
placed_room (Some n) (Some p) h = h

pub place_fits : (c : Content) (n : ℕ) (e : model.Event) (place : Option ℕ) → IsSound c
    → get c.records n ≡ Some (kind.Event e) → PlaceAt c place
    → still_carried (kind.Event (record e { place = place_with place e.place })) ≡ false
    → IsFit c n (kind.Event (record e { place = place_with place e.place }))
place_fits c n e place sound at there none =
    let f : model.Event = record e { place = place_with place e.place } in
    let P : Link → Type 0 = Stands c.records in
    let rest : List Link = flat_map participant_links e.participants ++ carried_links e.carried in
    let old : EachOf P (links (kind.Event e)) = sound.named n (kind.Event e) at in
    let lines : Lines = flat_map (λ (p : model.Participant). p.carried) e.participants ++ e.carried in
    let room : HasRoom None (kind.Event e) = sound.rules.levels n (kind.Event e) at in
    let apart = neither (not (is_some f.date) && list_any is_date e.carried)
    (not (is_some f.place) && list_any is_place e.carried) none in
    event_fits c n e f sound at (
      old.0,
      each_both P (place_line_links f.place) rest
          (placed_links c place e.place there (each_front P (place_line_links e.place) rest old.1))
          (each_back P (place_line_links e.place) rest old.1),
    )
    (λ Q h. each_both Q (place_line_carried f.place) lines
    (placed_carried Q place e.place (each_front Q (place_line_carried e.place) lines h))
    (each_back Q (place_line_carried e.place) lines h))
    (own_tags_of c n (kind.Event e) sound at) (own_texts_of c n (kind.Event e) sound at)
    (placed_said c place e.place there) (sound.rules.events n (kind.Event e) at) (
      (sound.rules.untaken n (kind.Event e) at).0,
      event_left (known_of c.records) e f e.carried apart.0 apart.1
          (sound.rules.untaken n (kind.Event e) at).1,
    )
    (placed_room place e.place room.0, room.1, room.2)
