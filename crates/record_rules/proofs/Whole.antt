-- The test of each rule on slips, and on all that an archive holds, decides it; what breaks a rule is not sound.
use Rattle.std.proofs.Common.{
  ◌≡◌,
  ℕ,
  ◌<◌,
  ◌==◌,
  List,
  [],
  ◌∷◌,
  true,
  false,
  not,
  nat_lt,
  map,
  refl,
  sym,
  ap,
  subst,
  ◌∙◌,
  true≢false,
}
use Rattle.std.specs.Prelude.{Option, Some, None, IfSome, MatchOption}
use Rattle.std.specs.Bool.{Decides}
use Rattle.std.proofs.lemmas.Bool.Decides.{Decides-and, Decides-eqb, Decides-ltb, Decides-not}
use Rattle.std.specs.List.{flat_map, list_all}
use Rattle.std.specs.FinMap.{get, get-from_entries}
use Rattle.std.specs.Cmp.{nat_cmp_total}
use Rattle.record_kinds.specs.declared.record.Record.{Record}
use Rattle.record_kinds.specs.declared.record.Record.TheVariants as kind
use Rattle.archive_state.specs.Links.{links}
use Rattle.record_shapes.specs.Lists.{Ascends, EachOf}
use Rattle.archive_state.specs.declared.slip.Change.{Change}
use Rattle.archive_state.specs.Content.{Content, Records}
use Rattle.archive_state.specs.Merging.{clashes, merged}
use Rattle.archive_state.specs.Slips.{Slip}
use Rattle.archive_state.specs.Sound.{
  EachIn,
  HasSoundRecords,
  IsEmptyPerson,
  IsNumber,
  IsPerson,
  IsSound,
  IsSoundSlip,
  Stands,
  StandsIfThere,
  change_names,
  old_records,
}
use Rattle.record_rules.specs.Archives.{Archive, at, content, olds}
use Rattle.record_rules.specs.Judged.{
  all_some,
  ascends,
  is_empty_person,
  is_nil,
  is_number,
  is_person,
  is_some_person,
  may_keep,
  stands,
  stands_if_there,
}
use Rattle.record_rules.specs.Rules.{
  ArchiveKeeps,
  ArchiveRule,
  Keeps,
  Rule,
  SlipKeeps,
  SlipRule,
  apart,
  archive_keeps,
  ascending,
  begun,
  bounded,
  distinct,
  event_tags,
  free,
  gone_person,
  is_none,
  joinable,
  keep_person,
  keys,
  levels,
  linked,
  members,
  mentions,
  normal_names,
  numbers,
  of_olds,
  of_records,
  of_slips,
  parents,
  paths,
  places,
  shapes,
  slip_keeps,
  slip_links,
  slip_numbers,
  stayed,
  tags,
  texts,
  trailers,
  untaken,
}
use Rattle.record_rules.proofs.Tests.{each_of, from_some, if_some, to_some}
use Rattle.record_rules.proofs.ExampleTests.{each_in}
use Rattle.record_rules.proofs.Judging.{all_stand, all_stand_there, decides}
use Rattle.record_rules.proofs.Parts as part

-- ---- slips
nil : {A : Type 0} (xs : List A) → Decides (is_nil xs) (xs ≡ [])
nil [] = (λ _. refl, λ _. refl)
nil (x ∷ xs) = (λ e. absurd (true≢false (sym e)), λ e. ap is_nil e)

a_person : (r : Record) → Decides (is_person r) (IsPerson r)
a_person (kind.Person p) = part.yes
a_person _ = (λ e. absurd (true≢false (sym e)), λ h. absurd h)

empty_person : (r : Record) → Decides (is_empty_person r) (IsEmptyPerson r)
empty_person (kind.Person p) = part.three _ _ _ (nil p.names) (part.no_value p.sex) (nil p.carried)
empty_person _ = (λ e. absurd (true≢false (sym e)), λ h. absurd h)

person_at : (o : Option Record) → Decides (is_some_person o) ((r : Record) × (o ≡ Some r) × IsPerson r)
person_at None = (λ e. absurd (true≢false (sym e)), λ h. let no : None ≡ Some h.0 = h.1 in absurd cc)
person_at (Some x) = (
  λ e. (x, refl, (a_person x).0 e),
  λ h. let found : Some x ≡ Some h.0 = h.1 in let same : x ≡ h.0 = cc in (a_person x).1 (subst IsPerson (sym same) h.2),
)

keep_at : (g o : Option Record) → Decides (may_keep g o)
    (MatchOption o ((r : Record) → g ≡ Some r → IsEmptyPerson r) IsPerson)
keep_at g None = (
  λ h r e. (empty_person r).0 (from_some is_empty_person g r e h),
  λ h. to_some is_empty_person g (λ r e. (empty_person r).1 (h r e)),
)
keep_at g (Some r) = a_person r

ascend : (ns : List ℕ) → Decides (ascends ns) (Ascends ns)
ascend [] = part.yes
ascend (n ∷ ns) = Decides-and (list_all (λ m. nat_lt n m) ns) (ascends ns)
    (each_of (λ m. nat_lt n m) (λ m. n < m) (λ m. Decides-ltb n m) ns) (ascend ns)

pub old_same : (s : Slip) (n : ℕ) → get (old_records s) n ≡ at (olds s) n
old_same s n = get-from_entries nat_cmp_total (olds s) n

pub slip_decides : (next n : ℕ) (s : Slip) (r : SlipRule) → Decides (slip_keeps next n s r) (SlipKeeps next n s r)
slip_decides next n s slip_numbers = each_of (is_number next) (IsNumber next) (part.number next)
    (n ∷ (s.keep ∷ (s.gone ∷ flat_map change_names s.changes)))
slip_decides next n s ascending = ascend (map (λ (c : Change). c.number) s.changes)
slip_decides next n s gone_person =
    subst (λ o. Decides (is_some_person (at (olds s) s.gone)) ((r : Record) × (o ≡ Some r) × IsPerson r))
    (sym (old_same s s.gone)) (person_at (at (olds s) s.gone))
slip_decides next n s keep_person =
    subst (λ o. Decides (may_keep (at (olds s) s.gone) (at (olds s) s.keep))
    (MatchOption o ((r : Record) → get (old_records s) s.gone ≡ Some r → IsEmptyPerson r) IsPerson))
    (sym (old_same s s.keep))
    (subst (λ g. Decides (may_keep (at (olds s) s.gone) (at (olds s) s.keep))
    (MatchOption (at (olds s) s.keep) ((r : Record) → g ≡ Some r → IsEmptyPerson r) IsPerson))
    (sym (old_same s s.gone))
    (keep_at (at (olds s) s.gone) (at (olds s) s.keep)))
slip_decides next n s apart = Decides-not (s.keep == s.gone) (Decides-eqb s.keep s.gone)
slip_decides next n s joinable = each_in (λ k r. not (clashes s.keep s.gone r)) (λ k r. clashes s.keep s.gone r ≡ false)
    (λ k r. part.is_not (clashes s.keep s.gone r)) (old_records s) (olds s) (old_same s)
slip_decides next n s slip_links = each_in (λ k r. list_all (stands_if_there (at (olds s))) (links r))
    (λ k r. EachOf (StandsIfThere (old_records s)) (links r))
    (λ k r. all_stand_there (old_records s) (olds s) (old_same s) r) (old_records s) (olds s) (old_same s)
slip_decides next n s (of_olds r) = decides (old_records s) (olds s) (old_same s) next r

-- ---- all
none_if : {X : Type 0} (o : Option X) → Decides (is_none o) (o ≡ None)
none_if None = (λ _. refl, λ _. refl)
none_if (Some x) = (λ e. absurd (true≢false (sym e)), λ e. ap is_none e)

module _ (a : Archive) where
  records_same : (n : ℕ) → get (content a).records n ≡ at a.records n
  records_same n = get-from_entries nat_cmp_total a.records n

  pub slips_same : (n : ℕ) → get (content a).slips n ≡ at a.slips n
  slips_same n = get-from_entries nat_cmp_total a.slips n

  no_slip : (n : ℕ) → Decides (is_none (at a.slips n)) (get (content a).slips n ≡ None)
  no_slip n = subst (λ o. Decides (is_none (at a.slips n)) (o ≡ None)) (sym (slips_same n)) (none_if (at a.slips n))

  pub archive_decides : (r : ArchiveRule) → Decides (archive_keeps a r) (ArchiveKeeps (content a) r)
  archive_decides begun = Decides-ltb 0 a.next
  archive_decides bounded = part.at_most a.next 4294967296
  archive_decides distinct = each_in (λ n r. is_none (at a.slips n)) (λ n r. get (content a).slips n ≡ None)
      (λ n r. no_slip n) (content a).records a.records records_same
  archive_decides linked = each_in (λ n r. list_all (stands (at a.records)) (links r))
      (λ n r. EachOf (Stands (content a).records) (links r))
      (λ n r. all_stand (content a).records a.records records_same r) (content a).records a.records records_same
  archive_decides stayed = each_in (λ n s. all_some is_person (at a.records s.keep))
      (λ n s. IfSome (get (content a).records s.keep) IsPerson)
      (λ n s. subst (λ o. Decides (all_some is_person (at a.records s.keep)) (IfSome o IsPerson))
      (sym (records_same s.keep)) (if_some is_person IsPerson a_person (at a.records s.keep)))
      (content a).slips a.slips slips_same
  archive_decides free = each_in (λ n s. is_none (at a.slips s.gone)) (λ n s. get (content a).slips s.gone ≡ None)
      (λ n s. no_slip s.gone) (content a).slips a.slips slips_same
  archive_decides (of_records r) = decides (content a).records a.records records_same a.next r
  archive_decides (of_slips r) = each_in (λ n s. slip_keeps a.next n s r) (λ n s. SlipKeeps a.next n s r)
      (λ n s. slip_decides a.next n s r) (content a).slips a.slips slips_same

-- ---- the rules are those of the definition
keeps_of : (next : ℕ) (m : Records) → HasSoundRecords next m → (r : Rule) → Keeps next m r
keeps_of next m h numbers = h.numbered
keeps_of next m h parents = h.parents
keeps_of next m h normal_names = h.normal
keeps_of next m h paths = h.paths
keeps_of next m h members = h.once
keeps_of next m h tags = h.tags
keeps_of next m h trailers = h.trailers
keeps_of next m h texts = h.texts
keeps_of next m h places = h.places
keeps_of next m h event_tags = h.events
keeps_of next m h mentions = h.mentions
keeps_of next m h untaken = h.untaken
keeps_of next m h shapes = h.shapes
keeps_of next m h levels = h.levels
keeps_of next m h keys = h.keys

of_keeps : (next : ℕ) (m : Records) → ((r : Rule) → Keeps next m r) → HasSoundRecords next m
of_keeps next m h = record {
  numbered = h numbers;
  parents = h parents;
  normal = h normal_names;
  paths = h paths;
  once = h members;
  tags = h tags;
  trailers = h trailers;
  texts = h texts;
  places = h places;
  events = h event_tags;
  mentions = h mentions;
  untaken = h untaken;
  shapes = h shapes;
  levels = h levels;
  keys = h keys;
}

slip_of : (next n : ℕ) (s : Slip) → IsSoundSlip next n s → (r : SlipRule) → SlipKeeps next n s r
slip_of next n s h slip_numbers = h.numbered
slip_of next n s h ascending = h.ascending
slip_of next n s h gone_person = h.gone
slip_of next n s h keep_person = h.keep
slip_of next n s h apart = h.apart
slip_of next n s h joinable = h.joinable
slip_of next n s h slip_links = h.named
slip_of next n s h (of_olds r) = keeps_of next (old_records s) h.rules r

archive_of : (c : Content) → IsSound c → (r : ArchiveRule) → ArchiveKeeps c r
archive_of c h begun = h.begun
archive_of c h bounded = h.bounded
archive_of c h distinct = h.distinct
archive_of c h linked = h.named
archive_of c h stayed = h.stayed
archive_of c h free = h.free
archive_of c h (of_records r) = keeps_of c.next c.records h.rules r
archive_of c h (of_slips r) = λ n s e. slip_of c.next n s (h.slips n s e) r

-- ---- what breaks a rule is not sound
pub not_sound : (a : Archive) (r : ArchiveRule) → archive_keeps a r ≡ false → ¬ (IsSound (content a))
not_sound a r e h = true≢false (sym ((archive_decides a r).1 (archive_of (content a) h r)) ∙ e)

-- ---- what keeps all is sound, where what is new in its slips is the merge of what is old
abbrev pub IsNew : Slip → Type 0
IsNew s = EachOf (λ (c : Change). c.new ≡ merged s.keep s.gone (get (old_records s)) c.number) s.changes

pub is_sound : (a : Archive) → ((r : ArchiveRule) → archive_keeps a r ≡ true)
    → EachIn (content a).slips (λ n s. IsNew s) → IsSound (content a)
is_sound a h new =
    let kept : (r : ArchiveRule) → ArchiveKeeps (content a) r = λ r. (archive_decides a r).0 (h r) in
    record {
      begun = kept begun;
      bounded = kept bounded;
      distinct = kept distinct;
      named = kept linked;
      rules = of_keeps a.next (content a).records (λ r. kept (of_records r));
      slips = λ n s e. record {
        numbered = kept (of_slips slip_numbers) n s e;
        ascending = kept (of_slips ascending) n s e;
        gone = kept (of_slips gone_person) n s e;
        keep = kept (of_slips keep_person) n s e;
        apart = kept (of_slips apart) n s e;
        joinable = kept (of_slips joinable) n s e;
        merges = new n s e;
        named = kept (of_slips slip_links) n s e;
        rules = of_keeps a.next (old_records s) (λ r. kept (of_slips (of_olds r)) n s e);
      };
      stayed = kept stayed;
      free = kept free;
    }
