-- A register entry that is made, or a mention of which gets another link, is fit for a sound archive.
use Rattle.std.proofs.Common.{
  ◌≡◌,
  ℕ,
  ◌+◌,
  ◌-◌,
  ◌≤◌,
  List,
  [],
  ◌∷◌,
  ◌++◌,
  ◌<◌,
  length,
  take,
  drop,
  set,
  get_or,
  true,
  false,
  refl,
  sym,
  ap,
  ◌∙◌,
  subst,
}
use Rattle.std.specs.Prelude.{suc, Option, Some, None, Result, Ok, Err, if◌then◌else◌}
use Rattle.std.proofs.lemmas.Grind.{drop-set_at, flat_map-append}
use Rattle.std.proofs.lemmas.List.{length-append, take-append-drop, take-set, drop_more}
use Rattle.std.specs.FinMap.{get, insert}
use Rattle.std.specs.List.{flat_map}
use Rattle.std.specs.Str.{IsUtf8}
use Rattle.record_text.specs.Text.{IsText}
use Rattle.record_text.specs.declared.refusal.RefusalKind.{RefusalKind}
use Rattle.record_text.specs.declared.refusal.RefusalKind.TheVariants.{NotOfKind}
use Rattle.record_fields.specs.Words.{role_of}
use Rattle.record_fields.specs.declared.date.Date.{Date}
use Rattle.record_fields.specs.declared.entry_words.EntryKind.{EntryKind}
use Rattle.record_fields.specs.declared.entry_words.Role.{Role}
use Rattle.record_kinds.specs.Model as model
use Rattle.record_kinds.specs.declared.record.Record.{Record}
use Rattle.record_kinds.specs.declared.record.Record.TheVariants as kind
use Rattle.archive_state.specs.Links.{Link, a_place, a_source, a_person, field_links, links, mention_links}
use Rattle.record_shapes.specs.Lists.{EachOf}
use Rattle.record_shapes.specs.Roles.{is_role_of}
use Rattle.archive_state.specs.Changes.{Changes}
use Rattle.archive_state.specs.Content.{Content}
use Rattle.archive_state.specs.Entries.{IsEntryAt}
use Rattle.archive_state.specs.Sound.{HasSaidPlace, HasSoundMentions, IsSound, Stands}
use Rattle.archive_state.specs.Texts.{own_texts, date_texts, mention_texts}
use Rattle.archive_state.proofs.Keeping.{IsAlike}
use Rattle.archive_state.specs.Looks.{Agrees, is_stop}
use Rattle.commands.specs.Rows.{and_then}
use Rattle.commands.specs.Mentions.{IsCount}
use Rattle.commands.specs.declared.entry_row.EntryRow.{EntryRow}
use Rattle.commands.specs.declared.entry_row.GivenMention.{GivenMention}
use Rattle.command_checks.proofs.Likes.{none_there}
use Rattle.command_checks.specs.Checks.{date_in, each, passed, text_in}
use Rattle.command_checks.specs.Entries.{key_is_free}
use Rattle.command_checks.specs.Entries.{mention_in, mentions_in, role_for, role_in}
use Rattle.archive_steps.specs.Steps.{entry_of, has_mention, linked, relinked, with_link}
use Rattle.archive_steps.specs.Words.{IsUtf8Entry, IsUtf8Mention}
use Rattle.archive_steps.proofs.Fitting.{PlaceAt, IsFresh, fresh_at_next, not_fresh, none_at_next, over}
use Rattle.command_checks.specs.Applied.{Plans}
use Rattle.record_changes.proofs.Keeping.{IsFit}
use Rattle.archive_steps.proofs.Same.{put_same}
use Rattle.archive_steps.proofs.Worded.{maybe_date, text_found}
use Rattle.merging.proofs.Alike.{entries_alike}
use Rattle.commands.proofs.Chains.{both_answered}
use Rattle.record_shapes.proofs.Each.{each_both, each_front, each_back}

-- an entry at a number
pub entry_fits : (c : Content) (n : ℕ) (e : model.Entry)
    → ((old : Record) → get c.records n ≡ Some old → IsAlike old (kind.Entry e)) → IsFresh c n
    → ((f : model.Entry) → kind.Entry e ≡ kind.Entry f → (k : ℕ) → IsEntryAt c.records f.source f.kind f.page
    f.item k → k ≡ n)
    → EachOf (Stands c.records) (links (kind.Entry e)) → EachOf IsText (own_texts (kind.Entry e))
    → HasSaidPlace c.records (kind.Entry e) → HasSoundMentions (kind.Entry e)
    → IsFit c n (kind.Entry e)
entry_fits c n e alike free keys named written place mentions = record {
  alike = alike;
  fresh = free;
  no_place = λ q f. absurd cc;
  keys = keys;
  no_other = λ q f. absurd cc;
  named = named;
  parents = tt;
  normal = tt;
  once = tt;
  data_tags = tt;
  trailers = tt;
  texts = each_both IsText (own_texts (kind.Entry e)) [] written tt;
  places = place;
  events = tt;
  mentions = mentions;
  untaken = tt;
  levels = tt;
}

-- ---- the mentions that a row gives
role_found : (k : EntryKind) (o : Option Role) (r : Role) → role_for k o ≡ Ok r → is_role_of k r ≡ true
role_found k None r e = absurd cc
role_found k (Some s) r e =
    elim (is_role_of k s) as (λ b. is_role_of k s ≡ b → (if b then Ok s else Err NotOfKind) ≡ Ok r
    → is_role_of k r ≡ true) [
      | true ↦ λ q f. let same : s ≡ r = cc in subst (λ x. is_role_of k x ≡ true) same q
      | false ↦ λ q f. absurd cc
    ] refl e

-- a mention that is taken has a role of the kind, a name that is a text, and no link
pub record IsTaken (k : EntryKind) (m : model.Mention) : Type 0 where
  pub role : is_role_of k m.role ≡ true
  pub name : IsText m.name
  pub free : m.link ≡ None

mention_found : (k : EntryKind) (g : GivenMention) (m : model.Mention) → IsUtf8 g.name
    → mention_in k g ≡ Ok m → IsTaken k m
mention_found k g m utf8 e =
    let r = both_answered (role_in k g.role)
    (λ r. and_then (text_in g.name) (λ t. Ok (record { role = r; name = t; link = None }))) m e in
    let t = both_answered (text_in g.name) (λ t. Ok (record { role = r.0; name = t; link = None })) m r.2 in
    let made : model.Mention = record { role = r.0; name = t.0; link = None } in
    let same : made ≡ m = let f = t.2 in cc in
    subst (IsTaken k) same
    (record { role = role_found k (role_of g.role) r.0 r.1; name = text_found g.name t.0 utf8 t.1; free = refl })

pub mentions_found : (k : EntryKind) (gs : List GivenMention) (ms : List model.Mention) → EachOf IsUtf8Mention gs
    → mentions_in k gs ≡ Ok ms → EachOf (IsTaken k) ms × (length ms ≡ length gs)
mentions_found k [] ms utf8 e = let same : [] ≡ ms = cc in (subst (EachOf (IsTaken k)) same tt, ap length (sym same))
mentions_found k (g ∷ gs) ms utf8 e =
    let x = both_answered (mention_in k g) (λ x. and_then (mentions_in k gs) (λ xs. Ok (x ∷ xs))) ms e in
    let xs = both_answered (mentions_in k gs) (λ xs. Ok (x.0 ∷ xs)) ms x.2 in
    let rest = mentions_found k gs xs.0 utf8.1 xs.1 in
    let same : x.0 ∷ xs.0 ≡ ms = let f = xs.2 in cc in (
      subst (EachOf (IsTaken k)) same (mention_found k g x.0 utf8.0 x.1, rest.0),
      ap length (sym same) ∙ ap suc rest.1,
    )

roles_of : (k : EntryKind) (ms : List model.Mention) → EachOf (IsTaken k) ms
    → EachOf (λ (m : model.Mention). is_role_of k m.role ≡ true) ms
roles_of k [] h = tt
roles_of k (m ∷ ms) h = (h.0.role, roles_of k ms h.1)

no_links : (k : EntryKind) (ms : List model.Mention) → EachOf (IsTaken k) ms → flat_map mention_links ms ≡ []
no_links k [] h = refl
no_links k (m ∷ ms) h = rw (h.0.free, no_links k ms h.1) refl

names_are : (k : EntryKind) (ms : List model.Mention) → EachOf (IsTaken k) ms
    → EachOf IsText (flat_map mention_texts ms)
names_are k [] h = tt
names_are k (m ∷ ms) h = each_both IsText (mention_texts m) (flat_map mention_texts ms) (rw h.0.free (h.0.name, tt))
    (names_are k ms h.1)

-- ---- the entry that a row gives
pub record IsGivenBy (source : ℕ) (row : EntryRow) (e : model.Entry) : Type 0 where
  pub of_source : e.source ≡ source
  pub at_place : e.place ≡ row.place
  pub texts : EachOf IsText (own_texts (kind.Entry e))
  pub links : flat_map mention_links e.mentions ≡ []
  pub mentions : HasSoundMentions (kind.Entry e)

pub entry_found : (source : ℕ) (row : EntryRow) (e : model.Entry) → IsUtf8Entry row → entry_of source row ≡ Ok e
    → IsGivenBy source row e
entry_found source row e utf8 given =
    let p = both_answered (text_in row.page)
    (λ p. and_then (text_in row.text)
    (λ t. and_then (each date_in row.date) (λ d. and_then (mentions_in row.kind row.mentions) (λ ms.
    Ok (record {
      source = source;
      kind = row.kind;
      page = p;
      item = row.item;
      date = d;
      place = row.place;
      text = t;
      mentions = ms;
    }))))) e given in
    let t = both_answered (text_in row.text)
    (λ t. and_then (each date_in row.date) (λ d. and_then (mentions_in row.kind row.mentions) (λ ms.
    Ok (record {
      source = source;
      kind = row.kind;
      page = p.0;
      item = row.item;
      date = d;
      place = row.place;
      text = t;
      mentions = ms;
    })))) e p.2 in
    let d = both_answered (each date_in row.date) (λ d. and_then (mentions_in row.kind row.mentions) (λ ms.
    Ok (record {
      source = source;
      kind = row.kind;
      page = p.0;
      item = row.item;
      date = d;
      place = row.place;
      text = t.0;
      mentions = ms;
    }))) e t.2 in
    let ms = both_answered (mentions_in row.kind row.mentions) (λ ms.
    Ok (record {
      source = source;
      kind = row.kind;
      page = p.0;
      item = row.item;
      date = d.0;
      place = row.place;
      text = t.0;
      mentions = ms;
    })) e d.2 in
    let made : model.Entry = record {
      source = source;
      kind = row.kind;
      page = p.0;
      item = row.item;
      date = d.0;
      place = row.place;
      text = t.0;
      mentions = ms.0;
    } in
    let same : made ≡ e = let f = ms.2 in cc in
    let found = mentions_found row.kind row.mentions ms.0 utf8.4 ms.1 in
    let count : IsCount row.mentions = utf8.3 in
    subst (IsGivenBy source row) same (record {
      of_source = refl;
      at_place = refl;
      texts = (
        text_found row.page p.0 utf8.0 p.1,
        (
          text_found row.text t.0 utf8.1 t.1,
          each_both IsText (date_texts d.0) (flat_map mention_texts ms.0)
              (maybe_date row.date d.0 utf8.2 d.1) (names_are row.kind ms.0 found.0),
        ),
      );
      links = no_links row.kind ms.0 found.0;
      mentions = (
        (subst (λ n. 1 ≤ n) (sym found.1) count.0, subst (λ n. n ≤ 100) (sym found.1) count.1),
        roles_of row.kind ms.0 found.0,
      );
    })

-- what it names stands, and the path of its place has a part
names_stand : (c : Content) (source : ℕ) (place : Option ℕ) → Stands c.records (source, a_source) → PlaceAt c place
    → EachOf (Stands c.records) ((source, a_source) ∷ (field_links a_place place ++ []))
names_stand c source None s p = (s, tt)
names_stand c source (Some n) s p = (s, (p.0, tt))

said_place : (c : Content) (e : model.Entry) (place : Option ℕ) → e.place ≡ place → PlaceAt c place
    → HasSaidPlace c.records (kind.Entry e)
said_place c e None is p = rw is tt
said_place c e (Some n) is p = rw is p.1

pub new_entry_fits : (c : Content) (source : ℕ) (row : EntryRow) (e : model.Entry) (u : Unit {0}) → IsSound c
    → IsGivenBy source row e → Stands c.records (source, a_source) → PlaceAt c row.place
    → key_is_free c.records source e.kind e.page e.item ≡ Ok u → IsFit c c.next (kind.Entry e)
new_entry_fits c source row e u sound given stands placed free =
    entry_fits c c.next e (λ old at. absurd (none_at_next c sound old at)) (fresh_at_next c)
    (λ f is k there.
    let same : e ≡ f = cc in
    let here : IsEntryAt c.records e.source e.kind e.page e.item k = subst
    (λ (x : model.Entry). IsEntryAt c.records x.source x.kind x.page x.item k) (sym same) there in
    absurd (none_there source e.kind e.page e.item c.records u free k
    (subst (λ s. IsEntryAt c.records s e.kind e.page e.item k) given.of_source here)))
    (rw (given.of_source, given.at_place, given.links) (names_stand c source row.place stands placed))
    given.texts
    (said_place c e row.place given.at_place placed)
    given.mentions

-- ---- another link of a mention
-- who it is of stands, and the reason is a text
abbrev pub LinkAt : Content → Option model.Link → Type 0
LinkAt c None = Unit {0}
LinkAt c (Some l) = Stands c.records (l.person, a_person) × IsText l.reason

module _ {A : Type 0} (P : A → Type 0) (f : model.Mention → List A) (link : Option model.Link)
    (step : (m : model.Mention) → EachOf P (f m) → EachOf P (f (record m { link = link }))) where
  each_linked : (ms : List model.Mention) → EachOf P (flat_map f ms) → EachOf P (flat_map f (linked link ms))
  each_linked [] h = h
  each_linked (m ∷ ms) h =
      each_both P (f (record m { link = link })) (flat_map f ms) (step m (each_front P (f m) (flat_map f ms) h))
      (each_back P (f m) (flat_map f ms) h)

  each_around : (front back : List model.Mention) → EachOf P (flat_map f (front ++ back))
      → EachOf P (flat_map f (front ++ linked link back))
  each_around front back h =
      let parts : EachOf P (flat_map f front ++ flat_map f back) = subst (EachOf P) (flat_map-append f front back) h in
      subst (EachOf P) (sym (flat_map-append f front (linked link back)))
      (each_both P (flat_map f front) (flat_map f (linked link back))
      (each_front P (flat_map f front) (flat_map f back) parts)
      (each_linked back (each_back P (flat_map f front) (flat_map f back) parts)))

  each_with : (i : ℕ) (ms : List model.Mention) → EachOf P (flat_map f ms)
      → EachOf P (flat_map f (take i ms ++ linked link (drop i ms)))
  each_with i ms h = each_around (take i ms) (drop i ms)
      (subst (λ l. EachOf P (flat_map f l)) (sym (take-append-drop i ms)) h)

-- names of persons, and texts
linked_names : (c : Content) (link : Option model.Link) → LinkAt c link → (m : model.Mention)
    → EachOf (Stands c.records) (mention_links m) → EachOf (Stands c.records) (mention_links (record m { link = link }))
linked_names c None h m old = tt
linked_names c (Some l) h m old = (h.0, tt)

linked_texts : (c : Content) (link : Option model.Link) → LinkAt c link → (m : model.Mention)
    → EachOf IsText (mention_texts m) → EachOf IsText (mention_texts (record m { link = link }))
linked_texts c None h m old = (old.0, tt)
linked_texts c (Some l) h m old = (old.0, (h.1, tt))

-- roles stay, and as many mentions
role_linked : (k : EntryKind) (link : Option model.Link) (ms : List model.Mention)
    → EachOf (λ (m : model.Mention). is_role_of k m.role ≡ true) ms
    → EachOf (λ (m : model.Mention). is_role_of k m.role ≡ true) (linked link ms)
role_linked k link [] h = h
role_linked k link (m ∷ ms) h = h

as_many : (link : Option model.Link) (ms : List model.Mention) → length (linked link ms) ≡ length ms
as_many link [] = refl
as_many link (m ∷ ms) = refl

same_count : (link : Option model.Link) (i : ℕ) (ms : List model.Mention)
    → length (take i ms ++ linked link (drop i ms)) ≡ length ms
same_count link i ms =
    length-append (take i ms) (linked link (drop i ms)) ∙ ap (λ n. length (take i ms) + n) (as_many link (drop i ms))
    ∙ sym (length-append (take i ms) (drop i ms)) ∙ ap length (take-append-drop i ms)

pub relinked_fits : (c : Content) (n : ℕ) (e : model.Entry) (k : ℕ) (link : Option model.Link) → IsSound c
    → get c.records n ≡ Some (kind.Entry e) → LinkAt c link → IsFit c n (kind.Entry (with_link k link e))
relinked_fits c n e k link sound at there =
    let i : ℕ = k - 1 in
    let P : Link → Type 0 = Stands c.records in
    let R : model.Mention → Type 0 = λ m. is_role_of e.kind m.role ≡ true in
    let named : EachOf P (links (kind.Entry e)) = sound.named n (kind.Entry e) at in
    let written : EachOf IsText (own_texts (kind.Entry e)) = each_front IsText (own_texts (kind.Entry e)) []
    (sound.rules.texts n (kind.Entry e) at) in
    let mentions : HasSoundMentions (kind.Entry e) = sound.rules.mentions n (kind.Entry e) at in
    let roles : EachOf R (take i e.mentions ++ drop i e.mentions) = subst (EachOf R)
    (sym (take-append-drop i e.mentions)) mentions.1 in
    let place : List Link = field_links a_place e.place in
    entry_fits c n (with_link k link e) (over c n (kind.Entry e) (kind.Entry (with_link k link e)) at
    (entries_alike e (with_link k link e)))
    (not_fresh c n (kind.Entry e) at)
    (λ f is j other.
    let same : with_link k link e ≡ f = cc in
    let here : IsEntryAt c.records e.source e.kind e.page e.item j = subst
    (λ (x : model.Entry). IsEntryAt c.records x.source x.kind x.page x.item j) (sym same) other in
    sym (sound.rules.keys n j e at here)) (
      named.0,
      each_both P place (flat_map mention_links (take i e.mentions ++ linked link (drop i e.mentions)))
          (each_front P place (flat_map mention_links e.mentions) named.1)
          (each_with P mention_links link (linked_names c link there) i e.mentions
          (each_back P place (flat_map mention_links e.mentions) named.1)),
    ) (
      written.0,
      (
        written.1.0,
        each_both IsText (date_texts e.date)
            (flat_map mention_texts (take i e.mentions ++ linked link (drop i e.mentions)))
            (each_front IsText (date_texts e.date) (flat_map mention_texts e.mentions) written.1.1)
            (each_with IsText mention_texts link (linked_texts c link there) i e.mentions
            (each_back IsText (date_texts e.date) (flat_map mention_texts e.mentions) written.1.1)),
      ),
    )
    (sound.rules.places n (kind.Entry e) at) (
      (
        subst (λ l. 1 ≤ l) (sym (same_count link i e.mentions)) mentions.0.0,
        subst (λ l. l ≤ 100) (sym (same_count link i e.mentions)) mentions.0.1,
      ),
      each_both R (take i e.mentions) (linked link (drop i e.mentions))
          (each_front R (take i e.mentions) (drop i e.mentions) roles)
          (role_linked e.kind link (drop i e.mentions) (each_back R (take i e.mentions) (drop i e.mentions) roles)),
    )

-- ---- an entry as code makes it
both_pass : (r : Result (List model.Mention) RefusalKind) (u : Unit {0}) → passed r ≡ Ok u
    → (ms : List model.Mention) × (r ≡ Ok ms)
both_pass (Ok ms) u e = (ms, refl)
both_pass (Err k) u e = absurd cc

pub entry_made : (source : ℕ) (row : EntryRow) (gs : List GivenMention) (p t : List ℕ) (d : Option Date) (u : Unit {0})
    (new : List model.Mention) → gs ≡ row.mentions → text_in row.page ≡ Ok p → text_in row.text ≡ Ok t
    → each date_in row.date ≡ Ok d
    → passed (mentions_in row.kind gs) ≡ Ok u
    → ((added : List model.Mention) → mentions_in row.kind gs ≡ Ok added → new ≡ added)
    → entry_of source row ≡ Ok
    (record {
      source = source;
      kind = row.kind;
      page = p;
      item = row.item;
      date = d;
      place = row.place;
      text = t;
      mentions = new;
    })
entry_made source row gs p t d u new is page text date fits pushed =
    let ms = both_pass (mentions_in row.kind gs) u fits in
    rw (page, text, date, ap (mentions_in row.kind) (sym is) ∙ ms.1, pushed ms.0 ms.1) refl

failed_of : (r : Result (List model.Mention) RefusalKind) (k : RefusalKind) → passed r ≡ Err k → r ≡ Err k
failed_of (Ok ms) k e = absurd cc
failed_of (Err j) k e = let same : j ≡ k = cc in ap Err same

pub entry_stops : (source : ℕ) (row : EntryRow) (gs : List GivenMention) (p t : List ℕ) (d : Option Date)
    (k : RefusalKind) (r : Result model.Entry RefusalKind) → gs ≡ row.mentions → text_in row.page ≡ Ok p
    → text_in row.text ≡ Ok t → each date_in row.date ≡ Ok d
    → (is_stop k ≡ false → passed (mentions_in row.kind gs) ≡ Err k) → r ≡ Err k
    → Agrees is_stop r (entry_of source row)
entry_stops source row gs p t d k r is page text date fails same =
    subst (λ x. Agrees is_stop x (entry_of source row)) (sym same)
    (λ other. rw (
      page,
      text,
      date,
      ap (mentions_in row.kind) (sym is) ∙ failed_of (mentions_in row.kind gs) k
          (fails other),
    ) refl)

-- ---- a link that is there already
pub relinked_same : (c : Content) (n : ℕ) (e : model.Entry) (k : ℕ) (link : Option model.Link)
    (r : Result Changes RefusalKind) → get c.records n ≡ Some (kind.Entry e) → has_mention k e ≡ true
    → with_link k link e ≡ e
    → Plans c r (Ok (c, record { first = 0; count = 0 })) → Plans c r (relinked c n e k link)
relinked_same c n e k link r at has same done =
    let put : insert c.records n (kind.Entry (with_link k link e)) ≡ c.records = put_same c.records n
    (kind.Entry (with_link k link e)) (at ∙ ap (λ x. Some (kind.Entry x)) (sym same)) in
    let step : relinked c n e k link ≡ Ok (c, record { first = 0; count = 0 }) = rw (has, put) refl in
    subst (Plans c r) (sym step) done

-- ---- a mention in its place
pub link_set : (ms : List model.Mention) (i : ℕ) (m x : model.Mention) (link : Option model.Link) → i < length ms
    → m ≡ get_or ms i m → x ≡ record m { link = link } → set ms i x ≡ take i ms ++ linked link (drop i ms)
link_set ms i m x link less is made =
    let old : drop i ms ≡ m ∷ drop (i + 1) ms = drop_more ms i m less ∙ ap (λ y. y ∷ drop (i + 1) ms) (sym is) in
    let new : drop i (set ms i x) ≡ linked link (drop i ms) = drop-set_at ms i i x refl less
    ∙ ap (λ y. y ∷ drop (i + 1) ms) made ∙ sym (ap (linked link) old) in
    sym (take-append-drop i (set ms i x)) ∙ ap (λ l. l ++ drop i (set ms i x)) (take-set ms i x)
    ∙ ap (λ l. take i ms ++ l) new
