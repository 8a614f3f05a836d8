-- A person with another sex or name is fit for a sound archive.
use Rattle.std.proofs.Common.{◌≡◌, ℕ, ◌-◌, List, [], ◌++◌, Bool, true, false, not, ◌&&◌, length, map, nat_lt, refl}
use Rattle.std.specs.Prelude.{Option, Some, None, if◌then◌else◌}
use Rattle.std.specs.FinMap.{get}
use Rattle.std.specs.List.{flat_map, list_any, remove}
use Rattle.record_text.specs.Text.{IsText}
use Rattle.stored_lines.specs.Line.{Lines}
use Rattle.record_fields.specs.declared.words.Sex.{Sex}
use Rattle.record_kinds.specs.Model as model
use Rattle.record_kinds.specs.declared.record.Record.TheVariants as kind
use Rattle.corrections.specs.Corrections.{names_with, renamed}
use Rattle.corrections.specs.Lists.{changed_at}
use Rattle.archive_state.specs.Content.{Content}
use Rattle.archive_state.specs.Known.{known_before, known_of}
use Rattle.archive_state.specs.Links.{carried_links, links, name_links}
use Rattle.archive_state.specs.Sound.{IsSound, Stands, owner_in}
use Rattle.archive_state.specs.Texts.{own_texts}
use Rattle.record_shapes.specs.Fields.{person_field}
use Rattle.record_shapes.specs.Forms.{is_empty, is_some}
use Rattle.record_shapes.specs.Levels.{AreWithin, HasRoom}
use Rattle.record_shapes.specs.Lists.{EachOf}
use Rattle.record_shapes.specs.Untaken.{AreUntaken, HasUntaken, person_leaves}
use Rattle.record_shapes.specs.declared.field.Field.{Field}
use Rattle.record_shapes.specs.Fields as part
use Rattle.record_shapes.proofs.Each.{each_mapped, each_under, more_leave}
use Rattle.record_changes.proofs.Alike.{persons_alike}
use Rattle.record_changes.proofs.Fitting.{IsLeft, not_fresh, over, own_texts_of, tags_left, texts_left}
use Rattle.record_changes.proofs.Keeping.{IsFit}
use Rattle.record_changes.proofs.Lists.{each_removed}
use Rattle.field_changes.specs.Carrying.{is_sex, still_carried}
use Rattle.field_changes.proofs.Leaving.{person_left}
use Rattle.field_changes.proofs.Lists.{each_changed, each_given}

person_fits : (c : Content) (n : ℕ) (p q : model.Person) → IsSound c → get c.records n ≡ Some (kind.Person p)
    → EachOf (Stands c.records) (links (kind.Person q)) → IsLeft (kind.Person p) (kind.Person q)
    → EachOf IsText (own_texts (kind.Person q))
    → HasUntaken (known_before c.records n) (known_of c.records) (kind.Person q)
    → HasRoom (owner_in c.records (kind.Person q)) (kind.Person q) → IsFit c n (kind.Person q)
person_fits c n p q sound at named left own untaken levels = record {
  alike = over c n (kind.Person p) (kind.Person q) at (persons_alike p q);
  fresh = not_fresh c n (kind.Person p) at;
  no_place = λ x e. absurd cc;
  keys = λ x e k there. absurd cc;
  no_other = λ x e. absurd cc;
  named = named;
  parents = tt;
  normal = tt;
  once = tt;
  data_tags = tags_left c n (kind.Person p) (kind.Person q) sound at left tt;
  trailers = tt;
  texts = texts_left c n (kind.Person p) (kind.Person q) sound at left own;
  places = tt;
  events = tt;
  mentions = tt;
  untaken = untaken;
  levels = levels;
}

pub sex_fits : (c : Content) (n : ℕ) (p : model.Person) (sex : Option Sex) → IsSound c
    → get c.records n ≡ Some (kind.Person p) → still_carried (kind.Person (record p { sex = sex })) ≡ false
    → IsFit c n (kind.Person (record p { sex = sex }))
sex_fits c n p sex sound at none =
    person_fits c n p (record p { sex = sex }) sound at (sound.named n (kind.Person p) at) (λ Q h. h)
    (own_texts_of c n (kind.Person p) sound at)
    (person_left (known_of c.records) p (record p { sex = sex }) p.carried none (sound.rules.untaken n (kind.Person
    p) at))
    (sound.rules.levels n (kind.Person p) at)

-- ---- names: one is changed or removed
by_name : (P : model.Name → Type 0) (k : ℕ) (t : List ℕ) (ns : List model.Name)
    → ((x : model.Name) → P x → P (renamed t x)) → (b : Bool) → EachOf P ns
    → EachOf P (if b then remove ns (k - 1) else changed_at (k - 1) (renamed t) ns)
by_name P k t ns h true all = each_removed P ns (k - 1) all
by_name P k t ns h false all = each_changed P (renamed t) h (k - 1) ns all

each_name : (P : model.Name → Type 0) (k : ℕ) (t : List ℕ) (ns : List model.Name)
    → ((x : model.Name) → P x → P (renamed t x)) → EachOf P ns → EachOf P (names_with k t ns)
each_name P k t ns h = by_name P k t ns h (is_empty t && nat_lt 1 (length ns))

pub name_fits : (c : Content) (n : ℕ) (p : model.Person) (k : ℕ) (t : List ℕ) → IsSound c
    → get c.records n ≡ Some (kind.Person p) → IsText t
    → IsFit c n (kind.Person (record p { names = names_with k t p.names }))
name_fits c n p k t sound at is =
    let q : model.Person = record p { names = names_with k t p.names } in
    let room : HasRoom None (kind.Person p) = sound.rules.levels n (kind.Person p) at in
    person_fits c n p q sound at
    (each_given (Stands c.records) name_links p.names q.names (carried_links p.carried)
    (each_name (λ x. EachOf (Stands c.records) (name_links x)) k t p.names (λ x h. h))
    (sound.named n (kind.Person p) at))
    (λ Q h. each_given Q (λ (x : model.Name). x.carried) p.names q.names p.carried
    (each_name (λ x. EachOf Q x.carried) k t p.names (λ x l. l)) h)
    (each_mapped IsText (λ (x : model.Name). x.text) q.names
    (each_name (λ x. IsText x.text) k t p.names (λ x _. is)
    (each_under IsText (λ (x : model.Name). x.text) p.names (own_texts_of c n (kind.Person p) sound at))))
    (more_leave (person_field (known_of c.records)) (person_leaves p) (person_leaves q) same p.carried
    (sound.rules.untaken n (kind.Person p) at))
    (each_name (λ x. AreWithin 97 x.carried) k t p.names (λ x l. l) room.0, room.1)
  where
    same : (x : Field) → person_leaves p x ≡ true
        → person_leaves (record p { names = names_with k t p.names }) x ≡ true
    same part.carried e = refl
    same part.a_sex e = e
    same _ e = absurd cc
