-- An event with another tag, which its owner may have, leaves a sound archive sound.
use Rattle.std.proofs.Common.{
  ◌≡◌,
  ℕ,
  ◌<◌,
  ◌≤◌,
  List,
  [],
  ◌∷◌,
  Bool,
  true,
  false,
  not,
  ◌&&◌,
  ◌||◌,
  length,
  refl,
  sym,
  ap,
  ◌∙◌,
  subst,
  arith,
}
use Rattle.std.specs.Prelude.{
  Option,
  Some,
  None,
  Result,
  Ok,
  Err,
  IfOk,
  IfSome,
  bytes_eq,
  codes,
  nat_le,
  nat_lt,
  if◌then◌else◌,
}
use Rattle.std.specs.FinMap.{get}
use Rattle.std.specs.List.{list_all, list_any}
use Rattle.std.proofs.lemmas.Bool.{and_parts}
use Rattle.std.proofs.lemmas.Bool.Decides.{nat_tests}
use Rattle.record_text.specs.Text.{is_word}
use Rattle.record_text.specs.declared.refusal.RefusalKind.TheVariants.{NotOfKind}
use Rattle.record_fields.specs.Bytes.{bytes_are}
use Rattle.record_kinds.specs.Model as model
use Rattle.record_kinds.specs.declared.record.Record.{Record}
use Rattle.record_kinds.specs.declared.record.Record.TheVariants as kind
use Rattle.record_shapes.specs.Tags.{event_tags, family_tags, is_event_tag, person_tags}
use Rattle.archive_state.specs.Content.{Content}
use Rattle.archive_state.specs.Known.{known_of}
use Rattle.archive_state.specs.Sound.{IsOfRecords, IsSound}
use Rattle.commands.specs.Rows.{and_then}
use Rattle.command_checks.specs.Checks.{
  each,
  event_tag,
  is_tag_of,
  owner_at,
  passed,
  said_place_at,
  tag_in,
  tags_of,
  text_in,
}
use Rattle.command_checks.specs.declared.looks.Owner.{Owner}
use Rattle.command_checks.specs.declared.looks.Owner.TheVariants as owner
use Rattle.command_checks.proofs.Found.{owner_found}
use Rattle.record_changes.specs.Laws.{ChangesOnly}
use Rattle.record_changes.specs.Steps.{replaced}
use Rattle.record_changes.proofs.Following.{leaves_all_else as else_left, replaced_sound}
use Rattle.record_changes.proofs.Fitting.{own_texts_of}
use Rattle.record_changes.proofs.Keeping.{IsFit}
use Rattle.field_changes.specs.Laws.{KeepsSoundTags, LeavesAllElseOfTags}
use Rattle.field_changes.specs.Steps.{record_there, retag, retagged, with_tag}
use Rattle.field_changes.proofs.Events.{event_fits}
use Rattle.field_changes.proofs.Leaving.{event_same}
use Rattle.field_changes.proofs.Stepping.{if_answered, then_ok, there_ok}

-- ---- a tag of an event is a tag, and none of a continuation
abbrev is_fine : List ℕ → Bool
is_fine t = (nat_lt 0 (length t) && (nat_le (length t) 31 && list_all is_word t)) && not
    (bytes_eq t (codes "CONC") || bytes_eq t (codes "CONT"))

is_one : (tags : List (List ℕ)) (tag : List ℕ) → list_all is_fine tags ≡ true → list_any (bytes_eq tag) tags ≡ true
    → is_fine tag ≡ true
is_one [] tag h e = absurd cc
is_one (t ∷ ts) tag h e =
    let both : (is_fine t ≡ true) × (list_all is_fine ts ≡ true) = and_parts (is_fine t) (list_all is_fine ts) h in
    elim (bytes_eq tag t) as (λ b. bytes_eq tag t ≡ b → (b || list_any (bytes_eq tag) ts) ≡ true → is_fine tag ≡ true) [
      | true ↦ λ same f. ap is_fine (bytes_are tag t same) ∙ both.0
      | false ↦ λ same f. is_one ts tag both.1 f
    ] refl e

fine_range : (k : ℕ) (words other : Bool) → ((nat_lt 0 k && (nat_le k 31 && words)) && other) ≡ true
    → (0 < k) × ((k ≤ 31) × ((words ≡ true) × (other ≡ true)))
fine_range k words other e = grind (arith, nat_tests)

fine_tag : (tag : List ℕ) → is_fine tag ≡ true → IsOfRecords tag
fine_tag tag e =
    let r = fine_range (length tag) (list_all is_word tag)
    (not (bytes_eq tag (codes "CONC") || bytes_eq tag (codes "CONT"))) e in (
      record { some = r.0; short = r.1.0; words = r.1.1.0 },
      (λ (same : tag ≡ codes "CONC"). let f : is_fine (codes "CONC") ≡ true = ap is_fine (sym same) ∙ e in absurd cc),
      (λ (same : tag ≡ codes "CONT"). let f : is_fine (codes "CONT") ≡ true = ap is_fine (sym same) ∙ e in absurd cc),
    )

fine_of_owner : (o : Owner) (tag : List ℕ) → is_tag_of o tag ≡ true → IsOfRecords tag
fine_of_owner owner.Person tag e = fine_tag tag (is_one person_tags tag refl e)
fine_of_owner owner.Family tag e = fine_tag tag (is_one family_tags tag refl e)

-- ---- the event
tag_of_owner : (c : Content) (k : ℕ) (o : Owner) (old : Record) (tag : List ℕ) → get c.records k ≡ Some old
    → event_tags old ≡ tags_of o → is_tag_of o tag ≡ true → IfSome (get c.records k) (λ r. is_event_tag tag r ≡ true)
tag_of_owner c k o old tag at tags e =
    subst (λ (r : Option Record). IfSome r (λ x. is_event_tag tag x ≡ true)) (sym at)
    (ap (list_any (bytes_eq tag)) tags ∙ e)

tag_fits : (c : Content) (n : ℕ) (e : model.Event) (o : Owner) (tag : List ℕ) → IsSound c
    → get c.records n ≡ Some (kind.Event e) → owner_at c e.owner ≡ Ok o → is_tag_of o tag ≡ true
    → IsFit c n (kind.Event (record e { tag = tag }))
tag_fits c n e o tag sound at holder fits =
    let there = owner_found (get c.records e.owner) o holder in
    event_fits c n e (record e { tag = tag }) sound at (sound.named n (kind.Event e) at) (λ Q h. h)
    (fine_of_owner o tag fits, tt) (own_texts_of c n (kind.Event e) sound at) (sound.rules.places n (kind.Event e) at)
    (tag_of_owner c e.owner o there.0 tag there.1 there.3 fits) (
      (sound.rules.untaken n (kind.Event e) at).0,
      event_same (known_of c.records) e (record e { tag = tag }) refl refl
          e.carried (sound.rules.untaken n (kind.Event e) at).1,
    )
    (sound.rules.levels n (kind.Event e) at)

-- ---- what an accepted tag has found
tag_found : (o : Owner) (t tag : List ℕ) → tag_in o t ≡ Ok tag → is_tag_of o tag ≡ true
tag_found o t tag e = elim (is_tag_of o t) as (λ b. is_tag_of o t ≡ b → (if b then Ok t else Err NotOfKind) ≡ Ok tag
    → is_tag_of o tag ≡ true) [
      | true ↦ λ q f. let same : t ≡ tag = cc in subst (λ x. is_tag_of o x ≡ true) same q
      | false ↦ λ q f. absurd cc
    ] refl e

-- the event that stands there, and its tag of after
pub record Retagged (c : Content) (n : ℕ) (s : Record) : Type 0 where
  pub event : model.Event
  pub at : get c.records n ≡ Some (kind.Event event)
  pub holder : Owner
  pub owned : owner_at c event.owner ≡ Ok holder
  pub tag : List ℕ
  pub fits : is_tag_of holder tag ≡ true
  pub after : kind.Event (record event { tag = tag }) ≡ s

found_event : (c : Content) (n : ℕ) (t : List ℕ) (e : model.Event) (s : Record) → get c.records n ≡ Some (kind.Event e)
    → retag c t (kind.Event e) ≡ Ok s → Retagged c n s
found_event c n t e s at h =
    let x = then_ok (with_tag c e t) (λ x. Ok (kind.Event x)) s h in
    let tag = then_ok (event_tag c e.owner None t) (λ (g : List ℕ). Ok (record e { tag = g })) x.0 x.1 in
    let o = then_ok (owner_at c e.owner) (λ o. and_then (passed (each (said_place_at c) None)) (λ _. tag_in o t)) tag.0
    tag.1 in
    let inner : record e { tag = tag.0 } ≡ x.0 = let f = tag.2 in cc in
    let outer : kind.Event x.0 ≡ s = let f = x.2 in cc in
    record {
      event = e;
      at = at;
      holder = o.0;
      owned = o.1;
      tag = tag.0;
      fits = tag_found o.0 t tag.0 o.2;
      after = ap (λ y. kind.Event y) inner ∙ outer;
    }

found_record : (c : Content) (n : ℕ) (t : List ℕ) (r s : Record) → get c.records n ≡ Some r → retag c t r ≡ Ok s
    → Retagged c n s
found_record c n t (kind.Event e) s at h = found_event c n t e s at h
found_record c n t _ s at h = absurd cc

found_of : (c : Content) (n : ℕ) (words : List ℕ) (s : Record) → retagged c n words ≡ Ok s → Retagged c n s
found_of c n words s e =
    let t = then_ok (text_in words) (λ t. and_then (record_there (get c.records n)) (λ r. retag c t r)) s e in
    let r = then_ok (record_there (get c.records n)) (λ r. retag c t.0 r) s t.2 in
    found_record c n t.0 r.0 s (there_ok (get c.records n) r.0 r.1) r.2

pub keeps_sound_tags : KeepsSoundTags
keeps_sound_tags c n words sound =
    if_answered (λ s. IsSound (replaced c n s).0) (retagged c n words) (λ s e.
    let f = found_of c n words s e in
    replaced_sound c n (kind.Event f.event) s sound f.at
    (subst (IsFit c n) f.after (tag_fits c n f.event f.holder f.tag sound f.at f.owned f.fits)))

pub leaves_all_else_of_tags : LeavesAllElseOfTags
leaves_all_else_of_tags c n words =
    if_answered (λ s. ChangesOnly c n (replaced c n s)) (retagged c n words) (λ s e.
    let f = found_of c n words s e in else_left c n (kind.Event f.event) s f.at)
