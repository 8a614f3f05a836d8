-- The test of each rule on records decides it.
use Rattle.std.proofs.Common.{
  ◌≡◌,
  ℕ,
  zero,
  suc,
  ◌+◌,
  ◌==◌,
  List,
  [],
  ◌∷◌,
  ◌++◌,
  true,
  nat_lt,
  refl,
  sym,
  ap,
  subst,
  ◌∙◌,
  IfSome,
}
use Rattle.std.specs.Prelude.{Option, Some, None, option_map, if◌then◌else◌}
use Rattle.std.specs.Bool.{Decides}
use Rattle.std.proofs.lemmas.Bool.Decides.{Decides-eqb}
use Rattle.std.specs.List.{list_all}
use Rattle.std.specs.FinMap.{get}
use Rattle.record_kinds.specs.Model as model
use Rattle.record_kinds.specs.declared.record.Record.{Record}
use Rattle.record_kinds.specs.declared.record.Record.TheVariants as kind
use Rattle.record_text.specs.Text.{IsText}
use Rattle.archive_state.specs.Carried.{carried_tags}
use Rattle.archive_state.specs.Links.{Link, is_wanted, links}
use Rattle.record_shapes.specs.Levels.{HasRoom}
use Rattle.record_shapes.specs.Lists.{EachOf}
use Rattle.record_shapes.specs.Paths.{IsWithinLimits, has_part, is_within_limits}
use Rattle.record_shapes.specs.Tags.{is_event_tag}
use Rattle.record_shapes.specs.Untaken.{HasUntaken}
use Rattle.archive_state.specs.Content.{Records}
use Rattle.archive_state.specs.Entries.{HasKey, IsEntryAt}
use Rattle.archive_state.specs.Known.{known_before, known_of, path_by, path_of, path_with, tag_at}
use Rattle.archive_state.specs.Paths.{Climbs, HasPath}
use Rattle.archive_state.specs.Sound.{
  EachIn,
  HasEventTag,
  HasMembersOnce,
  HasNormalName,
  HasOwnShape,
  HasSaidPlace,
  HasSmallerParent,
  HasSoundMentions,
  IsNoTrailer,
  IsNumber,
  IsOfRecords,
  Stands,
  StandsIfThere,
  own_tags,
  owner_in,
  place_of,
}
use Rattle.archive_state.proofs.Known.{path_known}
use Rattle.archive_state.specs.Texts.{carried_texts, own_texts}
use Rattle.record_rules.specs.Archives.{at}
use Rattle.record_rules.specs.Judged.{
  all_some,
  has_event_tag,
  has_key_of,
  has_members_once,
  has_normal_name,
  has_own_shape,
  has_room,
  has_said_place,
  has_smaller_parent,
  has_sound_mentions,
  has_tags,
  has_texts,
  has_untaken,
  is_apart,
  is_no_trailer,
  is_number,
  owner_seen,
  path_seen,
  seen,
  seen_before,
  stands,
  stands_if_there,
}
use Rattle.record_rules.specs.ExampleJudged.{has_own_key}
use Rattle.record_rules.specs.Rules.{
  Keeps,
  Rule,
  event_tags,
  keeps,
  keys,
  levels,
  members,
  mentions,
  normal_names,
  numbers,
  parents,
  paths,
  places,
  shapes,
  tags,
  texts,
  trailers,
  untaken,
}
use Rattle.record_rules.proofs.Tests.{each_of, from_some, if_some, to_all, to_some}
use Rattle.record_rules.proofs.ExampleTests.{all_there, each_in}
use Rattle.record_rules.proofs.Parts as part
use Rattle.record_shapes.proofs.Limits.{limits}

-- a part of a number's record, with other numbers that agree
abbrev pub Apart : ℕ → model.Entry → ℕ → Record → Type 0
Apart n e k (kind.Entry f) = HasKey e.source e.kind e.page e.item f → n ≡ k
Apart n e k _ = Unit {0}

apart : (n : ℕ) (e : model.Entry) (k : ℕ) (r : Record) → Decides (is_apart n e k r) (Apart n e k r)
apart n e k (kind.Entry f) = part.implies (has_key_of e f) (n == k) (part.key e f) (Decides-eqb n k)
apart n e k _ = part.yes

module _ (m : Records) (es : List (ℕ × Record)) (same : (n : ℕ) → get m n ≡ at es n) where
  -- ---- what is known
  path_steps : (steps n : ℕ) → path_by steps m n ≡ path_seen steps (at es) n
  path_steps zero n = refl
  path_steps (suc steps) n = ap (path_with n (path_by steps m)) (same n) ∙ ap (λ up. path_with n up (at es n))
      (λ i k. path_steps steps k i)

  path_is : (n : ℕ) → path_of m n ≡ path_seen (n + 1) (at es) n
  unfolding path_of
  path_is n = path_steps (n + 1) n

  known_is : known_of m ≡ seen (at es)
  known_is = λ i. record { tag = λ n. tag_at (same n i); path = λ n. path_is n i }

  before_is : (k : ℕ) → known_before m k ≡ seen_before (at es) k
  before_is k = λ i. record { tag = λ n. tag_at (same n i); path = λ n. if nat_lt n k then path_is n i else None }

  -- ---- paths
  place_there : (n : ℕ) (names : List (List ℕ)) → Climbs m n names → (p : model.Place) × (get m n ≡ Some (kind.Place p))
  place_there n [] h = absurd h
  place_there n (name ∷ []) h = (h.0, h.1)
  place_there n (name ∷ (above ∷ names)) h = (h.0, h.1)

  short_path : (n : ℕ) (o : Option Record) → at es n ≡ o → keeps 0 es paths ≡ true → (path : List ℕ) → HasPath m n path
      → IsWithinLimits path
  short_path n None e h path has = let p = place_there n has.0 has.1 in
      let both : None ≡ Some (kind.Place p.0) = sym e ∙ (sym (same n) ∙ p.1) in absurd cc
  short_path n (Some r) e h path has =
      let here = all_there (λ k. all_some (λ x. all_some is_within_limits (path_seen (k + 1) (at es) k)) (at es k)) n es
      r h e in
      let mine = from_some (λ x. all_some is_within_limits (path_seen (n + 1) (at es) n)) (at es n) r e here in
      (limits path).0 (from_some is_within_limits (path_seen (n + 1) (at es) n) path
      (sym (path_is n) ∙ (path_known m n path).0 has) mine)

  short_paths : Decides (keeps 0 es paths) (Keeps 0 m paths)
  short_paths = (
    λ h n path has. short_path n (at es n) refl h path has,
    λ h. to_all (λ e. all_some (λ x. all_some is_within_limits (path_seen (e.0 + 1) (at es) e.0)) (at es e.0)) es
        (λ e. to_some (λ x. all_some is_within_limits (path_seen (e.0 + 1) (at es) e.0)) (at es e.0)
        (λ x is. to_some is_within_limits (path_seen (e.0 + 1) (at es) e.0)
        (λ path found. (limits path).1 (h e.0 path ((path_known m e.0 path).1 (path_is e.0 ∙ found)))))),
  )

  -- ---- rules that look at other records
  said_at : (p : ℕ) → Decides (all_some has_part (path_seen (p + 1) (at es) p))
      ((path : List ℕ) → HasPath m p path → has_part path ≡ true)
  said_at p = (
    λ h path has. from_some has_part (path_seen (p + 1) (at es) p) path
        (sym (path_is p) ∙ (path_known m p path).0 has) h,
    λ h. to_some has_part (path_seen (p + 1) (at es) p)
        (λ path found. h path ((path_known m p path).1 (path_is p ∙ found))),
  )

  said : (r : Record) → Decides (has_said_place (seen (at es)) r) (HasSaidPlace m r)
  said r = if_some (λ p. all_some has_part (path_seen (p + 1) (at es) p))
      (λ p. (path : List ℕ) → HasPath m p path → has_part path ≡ true) said_at (place_of r)

  event_tag : (r : Record) → Decides (has_event_tag (at es) r) (HasEventTag m r)
  event_tag (kind.Event e) =
      subst (λ o. Decides (all_some (is_event_tag e.tag) (at es e.owner))
      (IfSome o (λ owner. is_event_tag e.tag owner ≡ true))) (sym (same e.owner))
      (if_some (is_event_tag e.tag) (λ owner. is_event_tag e.tag owner ≡ true)
      (λ owner. part.itself (is_event_tag e.tag owner)) (at es e.owner))
  event_tag _ = part.yes

  untaken_at : (n : ℕ) (r : Record) → Decides (has_untaken (seen_before (at es) n) (seen (at es)) r)
      (HasUntaken (known_before m n) (known_of m) r)
  untaken_at n r = subst (λ k. Decides (has_untaken (seen_before (at es) n) (seen (at es)) r)
      (HasUntaken k (known_of m) r)) (sym (before_is n))
      (subst (λ k. Decides (has_untaken (seen_before (at es) n) (seen (at es)) r)
      (HasUntaken (seen_before (at es) n) k r)) (sym known_is)
      (part.untaken (seen_before (at es) n) (seen (at es)) r))

  shape : (r : Record) → Decides (has_own_shape (seen (at es)) r) (HasOwnShape m r)
  shape (kind.Other o) = subst (λ k. Decides (has_own_shape k (kind.Other o)) (HasOwnShape m (kind.Other o))) known_is
      (part.other_shape (known_of m) o)
  shape _ = part.yes

  owner_is : (r : Record) → owner_in m r ≡ owner_seen (at es) r
  owner_is (kind.Citation c) = same c.owner
  owner_is (kind.Event e) = same e.owner
  owner_is _ = refl

  level : (r : Record) → Decides (has_room (owner_seen (at es) r) r) (HasRoom (owner_in m r) r)
  level r = subst (λ o. Decides (has_room (owner_seen (at es) r) r) (HasRoom o r)) (sym (owner_is r))
      (part.room (owner_seen (at es) r) r)

  -- ---- keys
  abbrev OwnKey : ℕ → Record → Type 0
  OwnKey n (kind.Entry e) = EachIn m (Apart n e)
  OwnKey n _ = Unit {0}

  own_key : (n : ℕ) (r : Record) → Decides (has_own_key es n r) (OwnKey n r)
  own_key n (kind.Entry e) = each_in (is_apart n e) (Apart n e) (apart n e) m es same
  own_key n _ = part.yes

  apart_all : (n : ℕ) (e : model.Entry) → ((k : ℕ) → IsEntryAt m e.source e.kind e.page e.item k → n ≡ k)
      → (k : ℕ) (r : Record) → get m k ≡ Some r → Apart n e k r
  apart_all n e h k (kind.Entry f) there = λ key. h k (f, there, key)
  apart_all n e h k _ there = tt

  own_keys : ((n k : ℕ) (e : model.Entry) → get m n ≡ Some (kind.Entry e) → IsEntryAt m e.source e.kind e.page e.item k
      → n ≡ k) → (n : ℕ) (r : Record) → get m n ≡ Some r → OwnKey n r
  own_keys h n (kind.Entry e) there = apart_all n e (λ k. h n k e there)
  own_keys h n _ there = tt

  keys_apart : Decides (keeps 0 es keys) (Keeps 0 m keys)
  keys_apart =
      let d = each_in (has_own_key es) OwnKey own_key m es same in
      (λ h n k e there like. d.0 h n (kind.Entry e) there k (kind.Entry like.0) like.1 like.2, λ h. d.1 (own_keys h))

  -- ---- each rule
  pub decides : (next : ℕ) (r : Rule) → Decides (keeps next es r) (Keeps next m r)
  decides next numbers = each_in (λ n r. is_number next n) (λ n r. IsNumber next n)
      (λ n r. part.number next n) m es same
  decides next parents = each_in has_smaller_parent HasSmallerParent part.parent m es same
  decides next normal_names = each_in (λ n r. has_normal_name r) (λ n r. HasNormalName r) (λ n r. part.name r) m es same
  decides next paths = short_paths
  decides next members = each_in (λ n r. has_members_once r) (λ n r. HasMembersOnce r)
      (λ n r. part.members_once r) m es same
  decides next tags = each_in (λ n r. has_tags r) (λ n r. EachOf IsOfRecords (own_tags r ++ carried_tags r))
      (λ n r. part.all_tags r) m es same
  decides next trailers = each_in (λ n r. is_no_trailer r) (λ n r. IsNoTrailer r) (λ n r. part.trailer r) m es same
  decides next texts = each_in (λ n r. has_texts r) (λ n r. EachOf IsText (own_texts r ++ carried_texts r))
      (λ n r. part.all_texts r) m es same
  decides next places = each_in (λ n r. has_said_place (seen (at es)) r) (λ n r. HasSaidPlace m r)
      (λ n r. said r) m es same
  decides next event_tags = each_in (λ n r. has_event_tag (at es) r) (λ n r. HasEventTag m r)
      (λ n r. event_tag r) m es same
  decides next mentions = each_in (λ n r. has_sound_mentions r) (λ n r. HasSoundMentions r)
      (λ n r. part.sound_mentions r) m es same
  decides next untaken = each_in (λ n r. has_untaken (seen_before (at es) n) (seen (at es)) r)
      (λ n r. HasUntaken (known_before m n) (known_of m) r) untaken_at m es same
  decides next shapes = each_in (λ n r. has_own_shape (seen (at es)) r) (λ n r. HasOwnShape m r)
      (λ n r. shape r) m es same
  decides next levels = each_in (λ n r. has_room (owner_seen (at es) r) r) (λ n r. HasRoom (owner_in m r) r)
      (λ n r. level r) m es same
  decides next keys = keys_apart

  -- ---- links
  pub stands_at : (l : Link) → Decides (stands (at es) l) (Stands m l)
  stands_at l = subst (λ o. Decides (stands (at es) l) (option_map (is_wanted l.1) o ≡ Some true)) (sym (same l.0))
      (part.is_yes_if (option_map (is_wanted l.1) (at es l.0)))

  pub stands_there : (l : Link) → Decides (stands_if_there (at es) l) (StandsIfThere m l)
  stands_there l = subst (λ o. Decides (all_some (is_wanted l.1) (at es l.0)) (IfSome o (λ r. is_wanted l.1 r ≡ true)))
      (sym (same l.0))
      (if_some (is_wanted l.1) (λ r. is_wanted l.1 r ≡ true) (λ r. part.itself (is_wanted l.1 r)) (at es l.0))

  pub all_stand : (r : Record) → Decides (list_all (stands (at es)) (links r)) (EachOf (Stands m) (links r))
  all_stand r = each_of (stands (at es)) (Stands m) stands_at (links r)

  pub all_stand_there : (r : Record) → Decides (list_all (stands_if_there (at es)) (links r))
      (EachOf (StandsIfThere m) (links r))
  all_stand_there r = each_of (stands_if_there (at es)) (StandsIfThere m) stands_there (links r)
