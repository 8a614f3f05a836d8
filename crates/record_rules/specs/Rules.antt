-- The rules of what a sound archive is, each by its name: what it says, and the test of it.
use Rattle.std.specs.Prelude.{
  ℕ,
  ◌≡◌,
  ◌≢◌,
  ◌<◌,
  ◌≤◌,
  ◌==◌,
  Bool,
  true,
  false,
  not,
  nat_lt,
  nat_le,
  List,
  [],
  ◌∷◌,
  ◌++◌,
  map,
  Option,
  Some,
  None,
  IfSome,
  MatchOption,
}
use Rattle.std.specs.List.{filter, flat_map, list_all}
use Rattle.std.specs.FinMap.{get}
use Rattle.record_kinds.specs.Model as model
use Rattle.record_kinds.specs.declared.record.Record.{Record}
use Rattle.record_kinds.specs.declared.record.Record.TheVariants as kind
use Rattle.archive_state.specs.Carried.{carried_tags}
use Rattle.record_text.specs.Text.{IsText}
use Rattle.archive_state.specs.Links.{links}
use Rattle.record_shapes.specs.Levels.{HasRoom}
use Rattle.record_shapes.specs.Lists.{Ascends, EachOf}
use Rattle.record_shapes.specs.Paths.{IsWithinLimits, is_within_limits}
use Rattle.record_shapes.specs.Untaken.{HasUntaken}
use Rattle.archive_state.specs.declared.slip.Change.{Change}
use Rattle.archive_state.specs.Content.{Content, Records}
use Rattle.archive_state.specs.Entries.{IsEntryAt}
use Rattle.archive_state.specs.Known.{known_before, known_of}
use Rattle.archive_state.specs.Merging.{clashes, merged}
use Rattle.archive_state.specs.Paths.{HasPath}
use Rattle.archive_state.specs.Slips.{Slip}
use Rattle.archive_state.specs.Sound.{
  EachIn,
  HasEventTag,
  HasMembersOnce,
  HasNormalName,
  HasOwnShape,
  HasSaidPlace,
  HasSmallerParent,
  HasSoundMentions,
  IsEmptyPerson,
  IsNoTrailer,
  IsNumber,
  IsOfRecords,
  IsPerson,
  Stands,
  StandsIfThere,
  change_names,
  old_records,
  own_tags,
  owner_in,
}
use Rattle.archive_state.specs.Texts.{carried_texts, own_texts}
use Rattle.record_rules.specs.Archives.{Archive, at, olds}
use Rattle.record_rules.specs.Judged.{
  all_some,
  ascends,
  has_event_tag,
  has_members_once,
  has_normal_name,
  has_own_shape,
  has_room,
  has_said_place,
  has_smaller_parent,
  has_sound_mentions,
  has_tags,
  has_texts,
  has_untaken,
  is_no_trailer,
  is_number,
  is_person,
  is_some_person,
  may_keep,
  owner_seen,
  seen,
  seen_before,
  stands,
  stands_if_there,
}
use Rattle.record_rules.specs.ExampleJudged.{each, has_own_key}

-- ---- the rules on records
pub data Rule : Type 0 where
  numbers parents normal_names paths members tags trailers texts places event_tags mentions untaken shapes
      levels keys : Rule

-- what each says
abbrev pub Keeps : ℕ → Records → Rule → Type 0
Keeps next m numbers = EachIn m (λ n r. IsNumber next n)
Keeps next m parents = EachIn m HasSmallerParent
Keeps next m normal_names = EachIn m (λ n r. HasNormalName r)
Keeps next m paths = (n : ℕ) (path : List ℕ) → HasPath m n path → IsWithinLimits path
Keeps next m members = EachIn m (λ n r. HasMembersOnce r)
Keeps next m tags = EachIn m (λ n r. EachOf IsOfRecords (own_tags r ++ carried_tags r))
Keeps next m trailers = EachIn m (λ n r. IsNoTrailer r)
Keeps next m texts = EachIn m (λ n r. EachOf IsText (own_texts r ++ carried_texts r))
Keeps next m places = EachIn m (λ n r. HasSaidPlace m r)
Keeps next m event_tags = EachIn m (λ n r. HasEventTag m r)
Keeps next m mentions = EachIn m (λ n r. HasSoundMentions r)
Keeps next m untaken = EachIn m (λ n r. HasUntaken (known_before m n) (known_of m) r)
Keeps next m shapes = EachIn m (λ n r. HasOwnShape m r)
Keeps next m levels = EachIn m (λ n r. HasRoom (owner_in m r) r)
Keeps next m keys = (n k : ℕ) (e : model.Entry) → get m n ≡ Some (kind.Entry e)
    → IsEntryAt m e.source e.kind e.page e.item k → n ≡ k

-- whether records keep it
abbrev pub keeps : ℕ → List (ℕ × Record) → Rule → Bool
keeps next es numbers = each (λ n r. is_number next n) es
keeps next es parents = each has_smaller_parent es
keeps next es normal_names = each (λ n r. has_normal_name r) es
keeps next es paths = each (λ n r. all_some is_within_limits ((seen (at es)).path n)) es
keeps next es members = each (λ n r. has_members_once r) es
keeps next es tags = each (λ n r. has_tags r) es
keeps next es trailers = each (λ n r. is_no_trailer r) es
keeps next es texts = each (λ n r. has_texts r) es
keeps next es places = each (λ n r. has_said_place (seen (at es)) r) es
keeps next es event_tags = each (λ n r. has_event_tag (at es) r) es
keeps next es mentions = each (λ n r. has_sound_mentions r) es
keeps next es untaken = each (λ n r. has_untaken (seen_before (at es) n) (seen (at es)) r) es
keeps next es shapes = each (λ n r. has_own_shape (seen (at es)) r) es
keeps next es levels = each (λ n r. has_room (owner_seen (at es) r) r) es
keeps next es keys = each (has_own_key es) es

abbrev pub rules : List Rule
rules = numbers ∷ parents ∷ normal_names ∷ paths ∷ members ∷ tags ∷ trailers ∷ texts ∷ places ∷ event_tags ∷ mentions
    ∷ untaken ∷ shapes ∷ levels ∷ keys ∷ []

-- ---- the rules on a slip
pub data SlipRule : Type 0 where
  slip_numbers ascending gone_person keep_person apart joinable slip_links : SlipRule
  of_olds : Rule → SlipRule

abbrev pub SlipKeeps : ℕ → ℕ → Slip → SlipRule → Type 0
SlipKeeps next n s slip_numbers = EachOf (IsNumber next) (n ∷ (s.keep ∷ (s.gone ∷ flat_map change_names s.changes)))
SlipKeeps next n s ascending = Ascends (map (λ (c : Change). c.number) s.changes)
SlipKeeps next n s gone_person = (r : Record) × (get (old_records s) s.gone ≡ Some r) × IsPerson r
SlipKeeps next n s keep_person = MatchOption (get (old_records s) s.keep)
    ((r : Record) → get (old_records s) s.gone ≡ Some r → IsEmptyPerson r) IsPerson
SlipKeeps next n s apart = s.keep ≢ s.gone
SlipKeeps next n s joinable = EachIn (old_records s) (λ n r. clashes s.keep s.gone r ≡ false)
SlipKeeps next n s slip_links = EachIn (old_records s) (λ n r. EachOf (StandsIfThere (old_records s)) (links r))
SlipKeeps next n s (of_olds rule) = Keeps next (old_records s) rule

abbrev pub slip_keeps : ℕ → ℕ → Slip → SlipRule → Bool
slip_keeps next n s slip_numbers = list_all (is_number next) (n ∷ (s.keep ∷ (s.gone ∷ flat_map change_names s.changes)))
slip_keeps next n s ascending = ascends (map (λ (c : Change). c.number) s.changes)
slip_keeps next n s gone_person = is_some_person (at (olds s) s.gone)
slip_keeps next n s keep_person = may_keep (at (olds s) s.gone) (at (olds s) s.keep)
slip_keeps next n s apart = not (s.keep == s.gone)
slip_keeps next n s joinable = each (λ n r. not (clashes s.keep s.gone r)) (olds s)
slip_keeps next n s slip_links = each (λ n r. list_all (stands_if_there (at (olds s))) (links r)) (olds s)
slip_keeps next n s (of_olds rule) = keeps next (olds s) rule

abbrev pub slip_rules : List SlipRule
slip_rules = slip_numbers ∷ ascending ∷ gone_person ∷ keep_person ∷ apart ∷ joinable ∷ slip_links ∷ map
    (λ r. of_olds r) rules

-- ---- the rules on all
pub data ArchiveRule : Type 0 where
  begun bounded distinct linked stayed free : ArchiveRule
  of_records : Rule → ArchiveRule
  of_slips : SlipRule → ArchiveRule

abbrev pub ArchiveKeeps : Content → ArchiveRule → Type 0
ArchiveKeeps c begun = 0 < c.next
ArchiveKeeps c bounded = c.next ≤ 4294967296
ArchiveKeeps c distinct = EachIn c.records (λ n r. get c.slips n ≡ None)
ArchiveKeeps c linked = EachIn c.records (λ n r. EachOf (Stands c.records) (links r))
ArchiveKeeps c stayed = EachIn c.slips (λ n s. IfSome (get c.records s.keep) IsPerson)
ArchiveKeeps c free = EachIn c.slips (λ n s. get c.slips s.gone ≡ None)
ArchiveKeeps c (of_records rule) = Keeps c.next c.records rule
ArchiveKeeps c (of_slips rule) = EachIn c.slips (λ n s. SlipKeeps c.next n s rule)

abbrev pub is_none : {X : Type 0} → Option X → Bool
is_none None = true
is_none (Some x) = false

abbrev pub archive_keeps : Archive → ArchiveRule → Bool
archive_keeps a begun = nat_lt 0 a.next
archive_keeps a bounded = nat_le a.next 4294967296
archive_keeps a distinct = each (λ n r. is_none (at a.slips n)) a.records
archive_keeps a linked = each (λ n r. list_all (stands (at a.records)) (links r)) a.records
archive_keeps a stayed = each (λ n s. all_some is_person (at a.records s.keep)) a.slips
archive_keeps a free = each (λ n s. is_none (at a.slips s.gone)) a.slips
archive_keeps a (of_records rule) = keeps a.next a.records rule
archive_keeps a (of_slips rule) = each (λ n s. slip_keeps a.next n s rule) a.slips

abbrev pub archive_rules : List ArchiveRule
archive_rules = begun ∷ bounded ∷ distinct ∷ linked ∷ stayed ∷ free
    ∷ (map (λ r. of_records r) rules ++ map (λ r. of_slips r) slip_rules)

-- the rules that an archive breaks
abbrev pub broken : Archive → List ArchiveRule
broken a = filter (λ r. not (archive_keeps a r)) archive_rules

-- the first breaks only that rule, and its neighbour none
abbrev pub OneBreaks : ArchiveRule → Archive → Archive → Type 0
OneBreaks r a b = (broken a ≡ r ∷ []) × (broken b ≡ [])

-- ---- what a slip's merge gives: the rule without a test
abbrev pub IsMerge : Slip → Type 0
IsMerge s = EachOf (λ (c : Change). c.new ≡ merged s.keep s.gone (at (olds s)) c.number) s.changes

abbrev pub AreMerges : List (ℕ × Slip) → Type 0
AreMerges es = EachOf (λ (e : ℕ × Slip). IsMerge e.1) es
