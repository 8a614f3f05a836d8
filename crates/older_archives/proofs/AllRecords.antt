-- Records with other dates for theirs keep the rules of a sound archive.
use Rattle.std.proofs.Common.{◌≡◌, ℕ, ◌<◌, List, ◌++◌, refl, sym, ap, subst, ◌∙◌, true}
use Rattle.std.specs.Prelude.{Option, Some, None, nat_lt, option_map, IfSome, if◌then◌else◌}
use Rattle.std.specs.FinMap.{get}
use Rattle.record_fields.specs.declared.date.Date.{Date}
use Rattle.record_kinds.specs.Model as model
use Rattle.record_kinds.specs.declared.record.Record.{Record}
use Rattle.record_kinds.specs.declared.record.Record.TheVariants as kind
use Rattle.archive_state.specs.Links.{Link, is_wanted, links}
use Rattle.record_shapes.specs.Forms.{Known}
use Rattle.record_shapes.specs.Levels.{AreWithin, HasRoom}
use Rattle.record_shapes.specs.Lists.{EachOf}
use Rattle.record_shapes.specs.Paths.{has_part}
use Rattle.record_shapes.specs.Readable.{IsReadableOther}
use Rattle.record_shapes.specs.Tags.{is_event_tag}
use Rattle.record_shapes.specs.Untaken.{HasUntaken}
use Rattle.record_text.specs.Text.{IsText}
use Rattle.archive_state.specs.Content.{Records}
use Rattle.archive_state.specs.Entries.{IsEntryAt}
use Rattle.archive_state.specs.Known.{known_before, known_of, path_of, tag_at}
use Rattle.archive_state.specs.Paths.{HasPath}
use Rattle.archive_state.specs.Texts.{carried_texts, own_texts}
use Rattle.record_shapes.specs.Levels.{room_below}
use Rattle.archive_state.specs.Known.{path_with}
use Rattle.archive_state.specs.Sound.{
  EachIn,
  HasEventTag,
  HasMembersOnce,
  HasNormalName,
  HasOwnShape,
  HasSaidPlace,
  HasSmallerParent,
  HasSoundMentions,
  HasSoundRecords,
  IsNoTrailer,
  IsOfRecords,
  Stands,
  StandsIfThere,
  owner_in,
  own_tags,
  place_of,
}
use Rattle.archive_state.specs.Carried.{carried_tags}
use Rattle.archive_state.proofs.Known.{path_known, path_same}
use Rattle.older_archives.specs.Anew.{redated}
use Rattle.older_archives.proofs.OneRecord.{
  by_kind,
  same_event_tag,
  same_links,
  same_path,
  same_room,
  same_tag,
  same_wanted,
  texts_still,
  untaken_still,
}
use Rattle.list_laws.proofs.Outcomes.{if_some}
use Rattle.record_shapes.proofs.Each.{each_more}

-- what stands at a number, of what stood there
pub redated_from : (f : Date → Date) (o : Option Record) (x : Record) → option_map (redated f) o ≡ Some x
    → (r : Record) × (o ≡ Some r) × (redated f r ≡ x)
redated_from f None x e = absurd cc
redated_from f (Some r) x e = (r, refl, cc)

module _ (f : Date → Date) (m after : Records) (at : (n : ℕ) → get after n ≡ option_map (redated f) (get m n)) where
  -- each of them, of each of those
  pub each_redated : (P Q : ℕ → Record → Type 0) → ((n : ℕ) (r : Record) → P n r → Q n (redated f r)) → EachIn m P
      → EachIn after Q
  each_redated P Q still h n x e =
      let (r, was, is) = redated_from f (get m n) x (sym (at n) ∙ e) in
      subst (Q n) is (still n r (h n r was))

  -- ---- what is known of them
  same_paths : (n : ℕ) → path_of after n ≡ path_of m n
  same_paths = path_same m after (λ n above. ap (path_with n above) (at n) ∙ same_path f n above (get m n))

  same_tags : (n : ℕ) → tag_at (get after n) ≡ tag_at (get m n)
  same_tags n = ap tag_at (at n) ∙ same_tag f (get m n)

  same_known : known_of m ≡ known_of after
  same_known i = record { tag = λ n. sym (same_tags n) i; path = λ n. sym (same_paths n) i }

  same_before : (k : ℕ) → known_before m k ≡ known_before after k
  same_before k i = record {
    tag = λ n. sym (same_tags n) i;
    path = λ n. if nat_lt n k then sym (same_paths n) i else None;
  }

  path_was : (n : ℕ) (path : List ℕ) → HasPath after n path → HasPath m n path
  path_was n path h = (path_known m n path).1 (sym (same_paths n) ∙ (path_known after n path).0 h)

  -- ---- what the rules ask of other records
  said_still : (r : Record) → HasSaidPlace m r → HasSaidPlace after r
  said_still r h = if_some (λ p. (path : List ℕ) → HasPath m p path → has_part path ≡ true)
      (λ p. (path : List ℕ) → HasPath after p path → has_part path ≡ true) (λ p old path there. old path
      (path_was p path there)) (place_of r) h

  owner_still : (tag : List ℕ) (o : Option Record) → IfSome o (λ owner. is_event_tag tag owner ≡ true)
      → IfSome (option_map (redated f) o) (λ owner. is_event_tag tag owner ≡ true)
  owner_still tag None h = tt
  owner_still tag (Some r) h = same_event_tag f tag r ∙ h

  event_still : (r : Record) → HasEventTag m r → HasEventTag after r
  event_still (kind.Event e) h = subst (λ (o : Option Record). IfSome o (λ owner. is_event_tag e.tag owner ≡ true))
      (sym (at e.owner)) (owner_still e.tag (get m e.owner) h)
  event_still (kind.Place p) h = tt
  event_still (kind.Repo p) h = tt
  event_still (kind.Source p) h = tt
  event_still (kind.Person p) h = tt
  event_still (kind.Family p) h = tt
  event_still (kind.Citation p) h = tt
  event_still (kind.Entry p) h = tt
  event_still (kind.Other p) h = tt

  shape_still : (r : Record) → HasOwnShape m r → HasOwnShape after r
  shape_still (kind.Other o) h = subst (λ (k : Known). IsReadableOther k o) same_known h
  shape_still (kind.Event p) h = tt
  shape_still (kind.Place p) h = tt
  shape_still (kind.Repo p) h = tt
  shape_still (kind.Source p) h = tt
  shape_still (kind.Person p) h = tt
  shape_still (kind.Family p) h = tt
  shape_still (kind.Citation p) h = tt
  shape_still (kind.Entry p) h = tt

  room_still : (r : Record) → HasRoom (owner_in m r) r → HasRoom (owner_in after r) r
  room_still (kind.Citation c) h = subst (λ k. AreWithin k c.carried)
      (sym (ap room_below (at c.owner) ∙ same_room f (get m c.owner))) h
  room_still (kind.Event p) h = h
  room_still (kind.Place p) h = h
  room_still (kind.Repo p) h = h
  room_still (kind.Source p) h = h
  room_still (kind.Person p) h = h
  room_still (kind.Family p) h = h
  room_still (kind.Entry p) h = h
  room_still (kind.Other p) h = h

  untaken_too : (n : ℕ) (r : Record) → HasUntaken (known_before m n) (known_of m) r
      → HasUntaken (known_before after n) (known_of after) r
  untaken_too n r h = subst (λ (k : Known). HasUntaken (known_before after n) k r) same_known
      (subst (λ (k : Known). HasUntaken k (known_of m) r) (same_before n) h)

  -- ---- register entries by their keys
  key_was : (n : ℕ) (e : model.Entry) → get after n ≡ Some (kind.Entry e) → (old : model.Entry)
      × (get m n ≡ Some (kind.Entry old)) × (record old { date = option_map f old.date } ≡ e)
  key_was n e there = by (get m n) refl (sym (at n) ∙ there)
    where
      by : (o : Option Record) → get m n ≡ o → option_map (redated f) o ≡ Some (kind.Entry e) → (old : model.Entry)
          × (get m n ≡ Some (kind.Entry old)) × (record old { date = option_map f old.date } ≡ e)
      by (Some (kind.Entry old)) was is = (old, was, cc)
      by None was is = absurd cc
      by (Some (kind.Place p)) was is = absurd cc
      by (Some (kind.Repo p)) was is = absurd cc
      by (Some (kind.Source p)) was is = absurd cc
      by (Some (kind.Person p)) was is = absurd cc
      by (Some (kind.Family p)) was is = absurd cc
      by (Some (kind.Citation p)) was is = absurd cc
      by (Some (kind.Event p)) was is = absurd cc
      by (Some (kind.Other p)) was is = absurd cc

  keys_still : ((n k : ℕ) (e : model.Entry) → get m n ≡ Some (kind.Entry e)
      → IsEntryAt m e.source e.kind e.page e.item k → n ≡ k) → (n k : ℕ) (e : model.Entry)
      → get after n ≡ Some (kind.Entry e) → IsEntryAt after e.source e.kind e.page e.item k → n ≡ k
  keys_still once n k e there (other, here, (source, kind_is, page, item)) =
      let (old, was, is) = key_was n e there in
      let (second, had, same) = key_was k other here in
      once n k old was (
        second,
        had,
        (
          ap (λ (x : model.Entry). x.source) same ∙ source ∙ sym (ap (λ (x : model.Entry). x.source) is),
          ap (λ (x : model.Entry). x.kind) same ∙ kind_is ∙ sym (ap (λ (x : model.Entry). x.kind) is),
          ap (λ (x : model.Entry). x.page) same ∙ page ∙ sym (ap (λ (x : model.Entry). x.page) is),
          ap (λ (x : model.Entry). x.item) same ∙ item ∙ sym (ap (λ (x : model.Entry). x.item) is),
        ),
      )

  -- ---- what links name
  wanted_still : (l : Link) (o : Option Record) → option_map (is_wanted l.1) o ≡ Some true
      → option_map (is_wanted l.1) (option_map (redated f) o) ≡ Some true
  wanted_still l None h = h
  wanted_still l (Some r) h = ap Some (same_wanted f l.1 r) ∙ h

  stands_still : (l : Link) → Stands m l → Stands after l
  stands_still l h = ap (option_map (is_wanted l.1)) (at l.0) ∙ wanted_still l (get m l.0) h

  if_wanted : (l : Link) (o : Option Record) → IfSome o (λ r. is_wanted l.1 r ≡ true)
      → IfSome (option_map (redated f) o) (λ r. is_wanted l.1 r ≡ true)
  if_wanted l None h = tt
  if_wanted l (Some r) h = same_wanted f l.1 r ∙ h

  stands_too : (l : Link) → StandsIfThere m l → StandsIfThere after l
  stands_too l h = subst (λ (o : Option Record). IfSome o (λ r. is_wanted l.1 r ≡ true)) (sym (at l.0))
      (if_wanted l (get m l.0) h)

  each_link : (P Q : Link → Type 0) → ((l : Link) → P l → Q l) → (r : Record) → EachOf P (links r)
      → EachOf Q (links (redated f r))
  each_link P Q still r h = subst (EachOf Q) (sym (same_links f r)) (each_more P Q still (links r) h)

  pub named_still : EachIn m (λ n r. EachOf (Stands m) (links r))
      → EachIn after (λ n r. EachOf (Stands after) (links r))
  named_still = each_redated (λ n r. EachOf (Stands m) (links r)) (λ n r. EachOf (Stands after) (links r))
      (λ n r h. each_link (Stands m) (Stands after) stands_still r h)

  pub named_too : EachIn m (λ n r. EachOf (StandsIfThere m) (links r))
      → EachIn after (λ n r. EachOf (StandsIfThere after) (links r))
  named_too = each_redated (λ n r. EachOf (StandsIfThere m) (links r)) (λ n r. EachOf (StandsIfThere after) (links r))
      (λ n r h. each_link (StandsIfThere m) (StandsIfThere after) stands_too r h)

  -- ---- all rules
  alone : (P : ℕ → Record → Type 0) → ((n : ℕ) (e : model.Event) → P n (kind.Event e) → P n (redated f (kind.Event e)))
      → ((n : ℕ) (e : model.Entry) → P n (kind.Entry e) → P n (redated f (kind.Entry e))) → EachIn m P → EachIn after P
  alone P events entries = each_redated P P (λ n r h. by_kind f (P n) (events n) (entries n) r h)

  pub rules_still : ((d : Date) → IsText d.text → IsText (f d).text) → (next : ℕ) → HasSoundRecords next m
      → HasSoundRecords next after
  rules_still are next rules = record {
    numbered = each_redated (λ n r. (0 < n) × (n < next)) (λ n r. (0 < n) × (n < next)) (λ n r h. h) rules.numbered;
    parents = alone HasSmallerParent (λ n e h. h) (λ n e h. h) rules.parents;
    normal = alone (λ n r. HasNormalName r) (λ n e h. h) (λ n e h. h) rules.normal;
    paths = λ n path h. rules.paths n path (path_was n path h);
    once = alone (λ n r. HasMembersOnce r) (λ n e h. h) (λ n e h. h) rules.once;
    tags = alone (λ n r. EachOf IsOfRecords (own_tags r ++ carried_tags r)) (λ n e h. h) (λ n e h. h) rules.tags;
    trailers = alone (λ n r. IsNoTrailer r) (λ n e h. h) (λ n e h. h) rules.trailers;
    texts = each_redated (λ n r. EachOf IsText (own_texts r ++ carried_texts r))
        (λ n r. EachOf IsText (own_texts r ++ carried_texts r)) (λ n r h. texts_still f are r h) rules.texts;
    places = each_redated (λ n r. HasSaidPlace m r) (λ n r. HasSaidPlace after r)
        (λ n r h. by_kind f (HasSaidPlace after) (λ e k. k) (λ e k. k) r (said_still r h)) rules.places;
    events = each_redated (λ n r. HasEventTag m r) (λ n r. HasEventTag after r)
        (λ n r h. by_kind f (HasEventTag after) (λ e k. k) (λ e k. k) r (event_still r h)) rules.events;
    mentions = alone (λ n r. HasSoundMentions r) (λ n e h. h) (λ n e h. h) rules.mentions;
    untaken = each_redated (λ n r. HasUntaken (known_before m n) (known_of m) r)
        (λ n r. HasUntaken (known_before after n) (known_of after) r)
        (λ n r h. untaken_still f (known_before after n) (known_of after) r (untaken_too n r h)) rules.untaken;
    shapes = each_redated (λ n r. HasOwnShape m r) (λ n r. HasOwnShape after r)
        (λ n r h. by_kind f (HasOwnShape after) (λ e k. k) (λ e k. k) r (shape_still r h)) rules.shapes;
    levels = each_redated (λ n r. HasRoom (owner_in m r) r) (λ n r. HasRoom (owner_in after r) r)
        (λ n r h. by_kind f (λ x. HasRoom (owner_in after x) x) (λ e k. k) (λ e k. k) r (room_still r h)) rules.levels;
    keys = keys_still rules.keys;
  }
