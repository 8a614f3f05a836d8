-- A register entry with another value of a field is fit for a sound archive.
use Rattle.std.proofs.Common.{
  ◌≡◌,
  ℕ,
  ◌≤◌,
  ◌-◌,
  List,
  [],
  ◌∷◌,
  ◌++◌,
  Bool,
  true,
  false,
  length,
  refl,
  sym,
  ap,
  ◌∙◌,
  subst,
}
use Rattle.std.specs.Prelude.{Option, Some, None, IfSome, Result, Ok, if◌then◌else◌}
use Rattle.std.specs.FinMap.{get}
use Rattle.std.specs.List.{flat_map}
use Rattle.record_text.specs.Text.{IsText}
use Rattle.record_text.specs.declared.refusal.RefusalKind.{RefusalKind}
use Rattle.record_fields.specs.declared.date.Date.{Date}
use Rattle.record_fields.specs.declared.entry_words.Role.{Role}
use Rattle.record_fields.specs.declared.item.Item.{Item}
use Rattle.record_kinds.specs.Model as model
use Rattle.record_kinds.specs.declared.record.Record.TheVariants as kind
use Rattle.corrections.specs.Corrections.{mention_as, mention_named}
use Rattle.corrections.specs.Lists.{changed_at}
use Rattle.archive_state.specs.Content.{Content}
use Rattle.archive_state.specs.Entries.{IsEntryAt}
use Rattle.archive_state.specs.Links.{Link, a_place, field_links, links, mention_links}
use Rattle.archive_state.specs.Paths.{HasPath}
use Rattle.archive_state.specs.Sound.{HasSaidPlace, HasSoundMentions, IsSound, Stands}
use Rattle.archive_state.specs.Texts.{date_texts, mention_texts, own_texts}
use Rattle.record_shapes.specs.Lists.{EachOf}
use Rattle.record_shapes.specs.Paths.{has_part}
use Rattle.record_shapes.specs.Roles.{is_role_of}
use Rattle.record_shapes.proofs.Each.{each_back, each_both, each_flat, each_front, each_of_flat}
use Rattle.command_checks.specs.Entries.{is_like, key_is_free}
use Rattle.command_checks.proofs.Likes.{key_of, none_there}
use Rattle.record_changes.proofs.Alike.{entries_alike}
use Rattle.record_changes.proofs.Fitting.{not_fresh, over, own_texts_of}
use Rattle.record_changes.proofs.Keeping.{IsFit}
use Rattle.field_changes.specs.Steps.{entry_keyed, has_key}
use Rattle.field_changes.proofs.Events.{PlaceAt}
use Rattle.field_changes.proofs.Lists.{each_changed, same_count}

-- ---- keys
-- no other entry has the key
key_kept : (c : Content) (n : ℕ) (e f : model.Entry) → IsSound c → get c.records n ≡ Some (kind.Entry e)
    → entry_keyed c n f ≡ Ok tt → (k : ℕ) → IsEntryAt c.records f.source f.kind f.page f.item k → k ≡ n
key_kept c n e f sound at keyed k there = by (has_key (get c.records n) f) refl keyed
  where
    by : (b : Bool) → has_key (get c.records n) f ≡ b
        → ◌≡◌ {A = Result (Unit {0}) RefusalKind}
        (if b then Ok tt else key_is_free c.records f.source f.kind f.page f.item) (Ok tt) → k ≡ n
    by true same free =
        let like : is_like f.source f.kind f.page f.item (kind.Entry e) ≡ true = ap (λ o. has_key o f) (sym at)
        ∙ same in
        let own = key_of f.source f.kind f.page f.item e like in
        sym (sound.rules.keys n k e at (
          there.0,
          there.1,
          (
            there.2.0 ∙ sym own.0,
            there.2.1 ∙ sym own.1,
            there.2.2 ∙ sym own.2,
            there.2.3 ∙ sym own.3,
          ),
        ))
    by false same free = absurd (none_there f.source f.kind f.page f.item c.records tt free k there)

entry_fits : (c : Content) (n : ℕ) (e f : model.Entry) → IsSound c → get c.records n ≡ Some (kind.Entry e)
    → entry_keyed c n f ≡ Ok tt → EachOf (Stands c.records) (links (kind.Entry f))
    → EachOf IsText (own_texts (kind.Entry f)) → HasSaidPlace c.records (kind.Entry f)
    → HasSoundMentions (kind.Entry f) → IsFit c n (kind.Entry f)
entry_fits c n e f sound at keyed named texts said mentions = record {
  alike = over c n (kind.Entry e) (kind.Entry f) at (entries_alike e f);
  fresh = not_fresh c n (kind.Entry e) at;
  no_place = λ x h. absurd cc;
  keys = λ x is k other.
      let same : f ≡ x = cc in
      key_kept c n e f sound at keyed k
      (subst (λ (y : model.Entry). IsEntryAt c.records y.source y.kind y.page y.item k) (sym same) other);
  no_other = λ x h. absurd cc;
  named = named;
  parents = tt;
  normal = tt;
  once = tt;
  data_tags = tt;
  trailers = tt;
  texts = each_both IsText (own_texts (kind.Entry f)) [] texts tt;
  places = said;
  events = tt;
  mentions = mentions;
  untaken = tt;
  levels = tt;
}

-- ---- item, page, text and date
pub item_fits : (c : Content) (n : ℕ) (e : model.Entry) (i : Item) → IsSound c → get c.records n ≡ Some (kind.Entry e)
    → entry_keyed c n (record e { item = i }) ≡ Ok tt → IsFit c n (kind.Entry (record e { item = i }))
item_fits c n e i sound at keyed =
    entry_fits c n e (record e { item = i }) sound at keyed (sound.named n (kind.Entry e) at)
    (own_texts_of c n (kind.Entry e) sound at) (sound.rules.places n (kind.Entry e) at)
    (sound.rules.mentions n (kind.Entry e) at)

pub entry_page_fits : (c : Content) (n : ℕ) (e : model.Entry) (t : List ℕ) → IsSound c
    → get c.records n ≡ Some (kind.Entry e) → IsText t → entry_keyed c n (record e { page = t }) ≡ Ok tt
    → IsFit c n (kind.Entry (record e { page = t }))
entry_page_fits c n e t sound at is keyed =
    entry_fits c n e (record e { page = t }) sound at keyed (sound.named n (kind.Entry e) at)
    (is, (own_texts_of c n (kind.Entry e) sound at).1) (sound.rules.places n (kind.Entry e) at)
    (sound.rules.mentions n (kind.Entry e) at)

pub text_fits : (c : Content) (n : ℕ) (e : model.Entry) (t : List ℕ) → IsSound c → get c.records n ≡ Some (kind.Entry e)
    → IsText t → entry_keyed c n (record e { text = t }) ≡ Ok tt → IsFit c n (kind.Entry (record e { text = t }))
text_fits c n e t sound at is keyed =
    let old = own_texts_of c n (kind.Entry e) sound at in
    entry_fits c n e (record e { text = t }) sound at keyed (sound.named n (kind.Entry e) at)
    (old.0, (is, old.1.1)) (sound.rules.places n (kind.Entry e) at) (sound.rules.mentions n (kind.Entry e) at)

pub entry_date_fits : (c : Content) (n : ℕ) (e : model.Entry) (d : Option Date) → IsSound c
    → get c.records n ≡ Some (kind.Entry e) → EachOf IsText (date_texts d)
    → entry_keyed c n (record e { date = d }) ≡ Ok tt → IsFit c n (kind.Entry (record e { date = d }))
entry_date_fits c n e d sound at dated keyed =
    let old = own_texts_of c n (kind.Entry e) sound at in
    let rest : List (List ℕ) = flat_map mention_texts e.mentions in
    entry_fits c n e (record e { date = d }) sound at keyed (sound.named n (kind.Entry e) at)
    (old.0, (old.1.0, each_both IsText (date_texts d) rest dated (each_back IsText (date_texts e.date) rest old.1.1)))
    (sound.rules.places n (kind.Entry e) at) (sound.rules.mentions n (kind.Entry e) at)

-- ---- the place
there_links : (c : Content) (place : Option ℕ) → PlaceAt c place → EachOf (Stands c.records) (field_links a_place place)
there_links c None h = tt
there_links c (Some n) h = (h.0, tt)

there_said : (c : Content) (place : Option ℕ) → PlaceAt c place
    → IfSome place (λ k. (path : List ℕ) → HasPath c.records k path → has_part path ≡ true)
there_said c None h = tt
there_said c (Some n) h = h.1

pub entry_place_fits : (c : Content) (n : ℕ) (e : model.Entry) (place : Option ℕ) → IsSound c
    → get c.records n ≡ Some (kind.Entry e) → PlaceAt c place → entry_keyed c n (record e { place = place }) ≡ Ok tt
    → IsFit c n (kind.Entry (record e { place = place }))
entry_place_fits c n e place sound at there keyed =
    let P : Link → Type 0 = Stands c.records in
    let old : EachOf P (links (kind.Entry e)) = sound.named n (kind.Entry e) at in
    let rest : List Link = flat_map mention_links e.mentions in
    entry_fits c n e (record e { place = place }) sound at keyed (
      old.0,
      each_both P (field_links a_place place) rest (there_links c place there)
          (each_back P (field_links a_place e.place) rest old.1),
    )
    (own_texts_of c n (kind.Entry e) sound at) (there_said c place there) (sound.rules.mentions n (kind.Entry e) at)

-- ---- a mention
mention_fits : (c : Content) (n : ℕ) (e : model.Entry) (i : ℕ) (f : model.Mention → model.Mention) → IsSound c
    → get c.records n ≡ Some (kind.Entry e)
    → ((m : model.Mention) → EachOf (Stands c.records) (mention_links m)
    → EachOf (Stands c.records) (mention_links (f m)))
    → ((m : model.Mention) → EachOf IsText (mention_texts m) → EachOf IsText (mention_texts (f m)))
    → ((m : model.Mention) → is_role_of e.kind m.role ≡ true → is_role_of e.kind (f m).role ≡ true)
    → entry_keyed c n (record e { mentions = changed_at i f e.mentions }) ≡ Ok tt
    → IsFit c n (kind.Entry (record e { mentions = changed_at i f e.mentions }))
mention_fits c n e i f sound at linked written role keyed =
    let P : Link → Type 0 = Stands c.records in
    let ms : List model.Mention = changed_at i f e.mentions in
    let old : EachOf P (links (kind.Entry e)) = sound.named n (kind.Entry e) at in
    let texts = own_texts_of c n (kind.Entry e) sound at in
    let mentions : HasSoundMentions (kind.Entry e) = sound.rules.mentions n (kind.Entry e) at in
    entry_fits c n e (record e { mentions = ms }) sound at keyed (
      old.0,
      each_both P (field_links a_place e.place) (flat_map mention_links ms)
          (each_front P (field_links a_place e.place) (flat_map mention_links e.mentions) old.1)
          (each_flat P mention_links ms (each_changed (λ m. EachOf P (mention_links m)) f linked i e.mentions
          (each_of_flat P mention_links e.mentions
          (each_back P (field_links a_place e.place) (flat_map mention_links e.mentions) old.1)))),
    ) (
      texts.0,
      (
        texts.1.0,
        each_both IsText (date_texts e.date) (flat_map mention_texts ms)
            (each_front IsText (date_texts e.date) (flat_map mention_texts e.mentions) texts.1.1)
            (each_flat IsText mention_texts ms (each_changed (λ m. EachOf IsText (mention_texts m)) f written i
            e.mentions
            (each_of_flat IsText mention_texts e.mentions
            (each_back IsText (date_texts e.date) (flat_map mention_texts e.mentions) texts.1.1)))),
      ),
    )
    (sound.rules.places n (kind.Entry e) at) (
      (
        subst (λ l. 1 ≤ l) (sym (same_count f i e.mentions)) mentions.0.0,
        subst (λ l. l ≤ 100) (sym (same_count f i e.mentions)) mentions.0.1,
      ),
      each_changed (λ (m : model.Mention). is_role_of e.kind m.role ≡ true) f role i e.mentions mentions.1,
    )

pub mention_name_fits : (c : Content) (n : ℕ) (e : model.Entry) (k : ℕ) (t : List ℕ) → IsSound c
    → get c.records n ≡ Some (kind.Entry e) → IsText t
    → entry_keyed c n (record e { mentions = changed_at (k - 1) (mention_named t) e.mentions }) ≡ Ok tt
    → IsFit c n (kind.Entry (record e { mentions = changed_at (k - 1) (mention_named t) e.mentions }))
mention_name_fits c n e k t sound at is =
    mention_fits c n e (k - 1) (mention_named t) sound at (λ m h. h) (λ m h. (is, h.1)) (λ m h. h)

pub mention_role_fits : (c : Content) (n : ℕ) (e : model.Entry) (k : ℕ) (r : Role) → IsSound c
    → get c.records n ≡ Some (kind.Entry e) → is_role_of e.kind r ≡ true
    → entry_keyed c n (record e { mentions = changed_at (k - 1) (mention_as r) e.mentions }) ≡ Ok tt
    → IsFit c n (kind.Entry (record e { mentions = changed_at (k - 1) (mention_as r) e.mentions }))
mention_role_fits c n e k r sound at is =
    mention_fits c n e (k - 1) (mention_as r) sound at (λ m h. h) (λ m h. h) (λ m h. is)
