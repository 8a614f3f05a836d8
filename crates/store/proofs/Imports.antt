-- What an archive with an import on it is, and becomes.
use Rattle.std.proofs.Common.{
  ◌≡◌,
  ◌≢◌,
  ◌⊎◌,
  inl,
  inr,
  ℕ,
  true,
  false,
  List,
  [],
  filter,
  take,
  drop,
  Option,
  None,
  Some,
  Ok,
  Err,
  refl,
  subst,
  ◌∙◌,
  true≢false,
}
use Rattle.std.specs.Prelude.{◌==◌, IfSome, MatchOption, OnOk, Result}
use Rattle.std.specs.FinMap.{get}
use Rattle.sqlite.specs.State.{State}
use Rattle.sqlite.specs.Tree.{Trees}
use Rattle.record_text.specs.declared.refusal.RefusalKind.{RefusalKind}
use Rattle.record_text.specs.declared.refusal.RefusalKind.TheVariants.{OutOfMemory, Storage}
use Rattle.archive_state.specs.Applied.{applied}
use Rattle.archive_state.specs.Changes.{Changes}
use Rattle.archive_state.specs.Content.{Content}
use Rattle.archive_state.specs.Sound.{IsSound}
use Rattle.archive_state.specs.declared.changes.Kept.{Kept}
use Rattle.command_checks.specs.Exact.{ChangesNothing}
use Rattle.receipts.specs.declared.answer.Receipt.{Receipt}
use Rattle.imports.specs.Imports.{OnlyAdds}
use Rattle.archive_core.specs.Applied.{Decides}
use Rattle.archive_core.specs.Exact.{IsExactFor}
use Rattle.archive_core.specs.Machine.{Does, outcome}
use Rattle.archive_core.specs.Words.{HasUtf8Words}
use Rattle.archive_core.specs.declared.request.Request.{Request}
use Rattle.archive_core.proofs.Serving.{request_sound}
use Rattle.record_shapes.specs.Lists.{EachOf}
use Rattle.store_tables.specs.Calls.{Good, LeavesOnly, Settled}
use Rattle.store_tables.specs.Rows.{LineRow, PackRow, RecordRow, Rows, with_batch}
use Rattle.store_rows.specs.Links.{KeepsLinks}
use Rattle.store_rows.specs.Meaning.{AllShallow, Means, is_closed}
use Rattle.store_rows.specs.Shallow.{IsShallowPut}
use Rattle.store_rows.specs.Sought.{KeepsSought}
use Rattle.store_rows.specs.Spans.{AreDrawn, Drawn, IsDated, KeepsSpans}
use Rattle.staged_rows.specs.Removing.{AreAside, AreOf, IsSeenAs, without_batch}
use Rattle.staged_rows.specs.Staging.{
  AreNew,
  IsFresh,
  numbers_of,
  rows_of_import,
  with_published,
  with_staged,
}
use Rattle.staging.specs.Opened.{Import, links_written}
use Rattle.staging.specs.Clearing.{LeavesSeen}
use Rattle.import_commits.specs.Commits.{
  AreWrittenAnew,
  IsAddition,
  IsBegun,
  IsNextBatch,
  LeavesBegun,
  LeavesEither,
  LeavesPublished,
}
use Rattle.store.specs.Archives.{HasArchive, Keeps, LeavesArchive}
use Rattle.store.specs.Calls.{KeepsRows}
use Rattle.store.specs.Histories.{is_storage}
use Rattle.store.specs.Importing.{Has, HasAnswered, HasBegun, KeepsImport}
use Rattle.store.proofs.Committed.{nothing_changes}
use Rattle.store.proofs.Seen.{seen_keeps}
use Rattle.store.proofs.Unchanged.{applies_nothing}

-- laws of import_commits
abbrev pub IsNew : Type 0
IsNew = (batch : ℕ) (rows : Rows) (t : Trees) (c : Content) (changes : Changes) → Good rows t
    → IsNextBatch batch rows → Means rows c → IsAddition c changes → IsFresh batch changes.puts rows

abbrev pub InNoView : Type 0
InNoView = (before rows : Rows) (i : Import) (c : Content) → IsBegun before i rows
    → IsFresh i.batch i.changes.puts before → IsAddition c i.changes → Means before c → IsSeenAs before rows

abbrev pub GoesOn : Type 0
GoesOn = (n : ℕ) (before rows : Rows) (i : Import) → IsBegun before i rows
    → IsBegun before (record i { left = drop n i.left }) (with_staged (take n i.left) rows)

abbrev pub GoesOnAnew : Type 0
GoesOnAnew = (n : ℕ) (before rows : Rows) (i : Import) → (begun : IsBegun before i rows)
    → AreWrittenAnew before i rows begun → AreNew (take n i.left) rows
    → (next : IsBegun before (record i { left = drop n i.left }) (with_staged (take n i.left) rows))
    × AreWrittenAnew before (record i { left = drop n i.left }) (with_staged (take n i.left) rows) next

abbrev pub IsWhole : Type 0
IsWhole = (before rows : Rows) (i : Import) (c : Content) → IsBegun before i rows
    → IsFresh i.batch i.changes.puts before → IsAddition c i.changes → Means before c → i.left ≡ []
    → Means (with_published i.batch i.changes rows) (applied c i.changes)
    × ((with_published i.batch i.changes rows).society ≡ before.society)

abbrev pub IsSpanned : Type 0
IsSpanned = (before rows : Rows) (i : Import) (c : Content) → IsBegun before i rows
    → IsFresh i.batch i.changes.puts before → IsAddition c i.changes → i.left ≡ [] → IsDated before
    → KeepsSpans before c → IsDated (with_published i.batch i.changes rows)
    × KeepsSpans (with_published i.batch i.changes rows) (applied c i.changes)

abbrev pub IsLinked : Type 0
IsLinked = (before rows : Rows) (i : Import) (c : Content) → IsBegun before i rows
    → IsFresh i.batch i.changes.puts before → IsAddition c i.changes → i.left ≡ [] → KeepsLinks before c
    → KeepsLinks (with_published i.batch i.changes rows) (applied c i.changes)

abbrev pub IsSoughtOut : Type 0
IsSoughtOut = (before rows : Rows) (i : Import) (c : Content) → IsBegun before i rows
    → IsFresh i.batch i.changes.puts before → IsAddition c i.changes → i.left ≡ [] → KeepsSought before c
    → KeepsSought (with_published i.batch i.changes rows) (applied c i.changes)

-- what each record has beside its lines when an import is published
pub record IsPublishedWith : Type 0 where
  pub spans : IsSpanned
  pub links : IsLinked
  pub soughts : IsSoughtOut

abbrev pub LeavesOthers : Type 0
LeavesOthers = (before rows : Rows) (i : Import) (c : Content) (m : ℕ) → IsBegun before i rows
    → IsAddition c i.changes → i.left ≡ [] → get c.records m ≡ get (applied c i.changes).records m
    → (filter (λ (l : LineRow). l.no == m) (with_published i.batch i.changes rows).lines ≡ filter
    (λ (l : LineRow). l.no == m) before.lines)
    × (filter (λ (p : PackRow). p.no == m) (with_published i.batch i.changes rows).packs ≡ filter
    (λ (p : PackRow). p.no == m) before.packs)
    × (filter (λ (r : RecordRow). r.no == m) (with_published i.batch i.changes rows).records ≡ filter
    (λ (r : RecordRow). r.no == m) before.records)

abbrev pub CanBeRead : Type 0
CanBeRead = (c : Content) (changes : Changes) → IsAddition c changes → EachOf IsShallowPut changes.puts → AllShallow c
    → AllShallow (applied c changes)

abbrev pub CanBeTakenOut : Type 0
CanBeTakenOut = (before rows : Rows) (i : Import) (c : Content) → IsBegun before i rows
    → IsFresh i.batch i.changes.puts before → IsAddition c i.changes → Means before c
    → AreAside (numbers_of i.changes.puts) rows × (is_closed i.batch rows.batches ≡ false)
    × AreOf (numbers_of i.changes.puts) (links_written i)

abbrev pub LeavesWhatWas : Type 0
LeavesWhatWas = (before rows : Rows) (i : Import) (c : Content) → (begun : IsBegun before i rows)
    → AreWrittenAnew before i rows begun
    → IsFresh i.batch i.changes.puts before → IsAddition c i.changes → Means before c
    → without_batch i.batch (numbers_of i.changes.puts) (links_written i) rows ≡ before

-- ---- while it is open
still_keeps : InNoView → (society : List ℕ) (c : Content) (before rows : Rows) (i : Import) → IsBegun before i rows
    → IsFresh i.batch i.changes.puts before → IsAddition c i.changes → Keeps society c before → Keeps society c rows
still_keeps law society c before rows i begun fresh adds keeps =
    seen_keeps society c before rows (law before rows i c begun fresh adds keeps.means) keeps

pub keeps_archive : InNoView → (society : List ℕ) (c : Content) (r : Request) (i : Import) (rows : Rows)
    → KeepsImport society c r i rows → Keeps society c rows
keeps_archive law society c r i rows has =
    still_keeps law society c has.before rows i has.begun has.fresh has.accepted.adds has.keeps

pub has_spans : InNoView → (society : List ℕ) (c : Content) (r : Request) (i : Import) (rows : Rows)
    → KeepsImport society c r i rows → rows.has_spans ≡ true
has_spans law society c r i rows has = (keeps_archive law society c r i rows has).dated.has_spans

pub has_the_archive : InNoView → (society : List ℕ) (c : Content) (o : Option (Request × Import)) (s : State)
    → Has society c o s → HasArchive society c s
has_the_archive law society c None s has = has
has_the_archive law society c (Some (r, i)) s has = (has.0, has.1, keeps_archive law society c r i has.0 has.2)

-- ---- what is said of an import that may be there
pub some_then : {A : Type 0} (P : Type 0) (Q R S : A → Type 0) (o : Option A) → MatchOption o P Q
    → IfSome o R → ((x : A) → Q x → R x → S x) → IfSome o S
some_then P Q R S None whole more f = tt
some_then P Q R S (Some x) whole more f = f x whole more

pub none_then : {A : Type 0} (P : Type 0) (Q : A → Type 0) (o : Option A) → MatchOption o P Q → o ≡ None → P
none_then P Q None whole none = whole
none_then P Q (Some x) whole none = absurd cc

pub ok_both : {A E P Q R : Type 0} (r : Result A E) → (P → Q → R) → OnOk r P → OnOk r Q → OnOk r R
ok_both (Ok a) f p q = f p q
ok_both (Err e) f p q = tt

-- ---- it is begun
-- the import of these changes of which no row is written
abbrev pub first_of : ℕ → Changes → Drawn → Import
first_of batch changes drawn = record {
  batch = batch;
  changes = changes;
  left = rows_of_import batch changes.puts drawn;
}

begins : (batch : ℕ) (changes : Changes) (drawn : Drawn) (rows : Rows) → AreDrawn changes.puts drawn
    → IsBegun rows (first_of batch changes drawn) (with_batch batch true rows)
begins batch changes drawn rows are = record { drawn = drawn; are = are; done = []; parts = refl; rows_are = refl }

pub adds_of : (c : Content) (changes : Changes) → OnlyAdds c changes → IsSound c → IsAddition c changes
adds_of c changes adds sound =
    record { once = adds.once; free = adds.free sound; removals = adds.removals; slip = adds.slip }

-- whether an answer is kept for a request, by whether one is to be kept
none_is_there : (N P : Type 0) (o : Option Receipt) → (N → ⊥) → MatchOption o P (λ _. N) → o ≡ None
none_is_there N P None off h = refl
none_is_there N P (Some receipt) off h = absurd (off h)

one_is_there : (N P : Type 0) (o : Option Receipt) → (P → ⊥) → MatchOption o P (λ _. N) → o ≢ None
one_is_there N P None off h e = off h
one_is_there N P (Some receipt) off h e = absurd cc

some_is_not : (k : Kept) (o : Option Kept) → o ≡ None → o ≡ Some k → ⊥
some_is_not k o none some = absurd cc

pub none_is_kept : (c : Content) (r : Request) (changes : Changes) → IsExactFor c r changes → changes.kept ≢ None
    → get c.receipts r.token ≡ None
none_is_kept c r changes exact anew =
    none_is_there (ChangesNothing c changes) _ (get c.receipts r.token) (λ nothing. anew nothing.kept) exact.0

pub one_is_kept : (c : Content) (r : Request) (changes : Changes) → IsExactFor c r changes → changes.kept ≡ None
    → get c.receipts r.token ≢ None
one_is_kept c r changes exact none =
    one_is_there (ChangesNothing c changes) _ (get c.receipts r.token) (some_is_not _ changes.kept none) exact.0

-- the answer was kept before
pub has_answered : (c : Content) (rows : Rows) (r : Request) (changes : Changes) (s : State)
    → Decides c (Ok changes) (outcome c r) → IsExactFor c r changes → changes.kept ≡ None → Settled s rows
    → HasAnswered c rows r changes.answer s
has_answered c rows r changes s decided exact none settled =
    let same = applies_nothing c changes (nothing_changes c r changes exact none) in
    (subst (λ d. Does c r (Ok changes.answer) d) same decided, settled, one_is_kept c r changes exact none)

module _ (seen : InNoView) (law : IsNew) (society : List ℕ) (c : Content) (rows : Rows) (changes : Changes)
    (old : State) (was : Settled old rows) (keeps : Keeps society c rows) (only : OnlyAdds c changes) where
  abbrev adds : IsAddition c changes
  adds = adds_of c changes only keeps.sound

  fresh_of : (batch : ℕ) → IsNextBatch batch rows → IsFresh batch changes.puts rows
  fresh_of batch next = law batch rows old.now.trees c changes was.good next keeps.means adds

  -- the import that puts nothing
  abbrev none : Changes
  none = record changes { puts = [] }

  fresh_none : (batch : ℕ) → IsFresh batch changes.puts rows → IsFresh batch none.puts rows
  fresh_none batch fresh =
      record {
        unused = fresh.unused;
        records = fresh.records;
        numbers = tt;
        lines = tt;
        packs = tt;
        spans = tt;
        soughts = tt;
      }

  adds_none : IsAddition c none
  adds_none = record { once = tt; free = tt; removals = adds.removals; slip = adds.slip }

  pub has_begun : (r : Request) (batch : ℕ) (drawn : Drawn) (s : State) → AreDrawn changes.puts drawn
      → Decides c (Ok changes) (outcome c r)
      → IsExactFor c r changes → HasUtf8Words r.command → changes.kept ≢ None → IsNextBatch batch rows
      → Settled s (with_batch batch true rows) → HasBegun society c rows r changes.answer
      (first_of batch changes drawn) s
  unfolding begins
  has_begun r batch drawn s are decided exact words anew next now = (
    (
      with_batch batch true rows,
      now,
      record {
        before = rows;
        keeps = keeps;
        fresh = fresh_of batch next;
        begun = begins batch changes drawn rows are;
        anew = tt;
        accepted = record {
          new = none_is_kept c r changes exact anew;
          accepted = decided;
          words = words;
          adds = adds;
        };
      },
    ),
    refl,
    refl,
    refl,
  )

  -- whatever a stop leaves is the archive of before
  pub begin_leaves : (s : State) → LeavesBegun s rows → LeavesArchive s society (λ found. found ≡ c)
  begin_leaves s leaves t l = elim (leaves t l) [
    | inl good ↦ (c, refl, (rows, good, keeps))
    | inr next ↦
        let after = with_batch next.0 true rows in (
          c,
          refl,
          (
            after,
            next.2,
            still_keeps seen society c rows after (first_of next.0 none []) (begins next.0 none [] rows tt)
                (fresh_none next.0 (fresh_of next.0 next.1)) adds_none keeps,
          ),
        )
  ]

-- nothing was committed
pub only_leaves : (society : List ℕ) (c : Content) (rows : Rows) (s : State) → Keeps society c rows
    → LeavesOnly s rows → LeavesArchive s society (λ found. found ≡ c)
only_leaves society c rows s keeps only t l = (c, refl, (rows, only t l, keeps))

-- ---- a stage
-- it goes on by rows of which no link was there
abbrev pub stage_keeps : GoesOnAnew → (n : ℕ) (society : List ℕ) (c : Content) (r : Request) (i : Import) (rows : Rows)
    → KeepsImport society c r i rows → AreNew (take n i.left) rows
    → KeepsImport society c r (record i { left = drop n i.left }) (with_staged (take n i.left) rows)
stage_keeps law n society c r i rows has new =
    let next = law n has.before rows i has.begun has.anew new in
    record {
      before = has.before;
      keeps = has.keeps;
      fresh = has.fresh;
      begun = next.0;
      anew = next.1;
      accepted = record {
        new = has.accepted.new;
        accepted = has.accepted.accepted;
        words = has.accepted.words;
        adds = has.accepted.adds;
      };
    }

-- whatever a stop leaves of a stage is the archive of before
pub stage_leaves : InNoView → GoesOn → (n : ℕ) (society : List ℕ) (c : Content) (r : Request) (i : Import) (rows : Rows)
    (s : State) → KeepsImport society c r i rows → LeavesEither s rows (with_staged (take n i.left) rows)
    → LeavesArchive s society (λ found. found ≡ c)
stage_leaves seen goes n society c r i rows s has either t l = elim (either t l) [
  | inl good ↦ (c, refl, (rows, good, keeps_archive seen society c r i rows has))
  | inr good ↦
      let next : Import = record i { left = drop n i.left } in
      let after = with_staged (take n i.left) rows in (
        c,
        refl,
        (
          after,
          good,
          still_keeps seen society c has.before after next (goes n has.before rows i has.begun) has.fresh
              has.accepted.adds has.keeps,
        ),
      )
]

-- ---- it is published
pub published_keeps : IsWhole → IsPublishedWith → CanBeRead → (society : List ℕ) (c : Content) (r : Request)
    (i : Import) (rows : Rows)
    → KeepsImport society c r i rows → i.left ≡ [] → EachOf IsShallowPut i.changes.puts
    → Keeps society (applied c i.changes) (with_published i.batch i.changes rows)
published_keeps whole beside read society c r i rows has none puts =
    let made = whole has.before rows i c has.begun has.fresh has.accepted.adds has.keeps.means none in
    let spans = beside.spans has.before rows i c has.begun has.fresh has.accepted.adds none has.keeps.dated
    has.keeps.spans in
    record {
      means = made.0;
      shallow = read c i.changes has.accepted.adds puts has.keeps.shallow;
      sound = request_sound c (applied c i.changes) r (Ok i.changes.answer) has.accepted.words has.keeps.sound
          has.accepted.accepted;
      society_is = made.1 ∙ has.keeps.society_is;
      dated = spans.0;
      spans = spans.1;
      links = beside.links has.before rows i c has.begun has.fresh has.accepted.adds none has.keeps.links;
      soughts = beside.soughts has.before rows i c has.begun has.fresh has.accepted.adds none has.keeps.soughts;
    }

pub published_rows : LeavesOthers → (society : List ℕ) (c : Content) (r : Request) (i : Import) (rows : Rows)
    → (has : KeepsImport society c r i rows) → i.left ≡ []
    → KeepsRows c (applied c i.changes) has.before (with_published i.batch i.changes rows)
published_rows law society c r i rows has none m same =
    law has.before rows i c m has.begun has.accepted.adds none same

pub publish_leaves : InNoView → IsWhole → IsPublishedWith → CanBeRead → (society : List ℕ) (c : Content) (r : Request)
    (i : Import)
    (rows : Rows) (s : State) → KeepsImport society c r i rows → i.left ≡ [] → LeavesPublished s rows i
    → LeavesArchive s society (λ found. (found ≡ c) ⊎ (found ≡ applied c i.changes))
publish_leaves seen whole beside read society c r i rows s has none either t l = elim (either t l) [
  | inl good ↦ (c, inl refl, (rows, good, keeps_archive seen society c r i rows has))
  | inr good ↦ (
    applied c i.changes,
    inr refl,
    (
      with_published i.batch i.changes rows,
      good.0,
      published_keeps whole beside read society c r i rows has none (good.1 none),
    ),
  )
]

-- ---- it is removed
pub aside_of : CanBeTakenOut → (society : List ℕ) (c : Content) (r : Request) (i : Import) (rows : Rows)
    → KeepsImport society c r i rows
    → AreAside (numbers_of i.changes.puts) rows × (is_closed i.batch rows.batches ≡ false)
    × AreOf (numbers_of i.changes.puts) (links_written i)
aside_of law society c r i rows has =
    law has.before rows i c has.begun has.fresh has.accepted.adds has.keeps.means

pub gone_of : LeavesWhatWas → (society : List ℕ) (c : Content) (r : Request) (i : Import) (rows : Rows) (s : State)
    → (has : KeepsImport society c r i rows)
    → Settled s (without_batch i.batch (numbers_of i.changes.puts) (links_written i) rows)
    → Settled s has.before
gone_of law society c r i rows s has now =
    subst (Settled s) (law has.before rows i c has.begun has.anew has.fresh has.accepted.adds has.keeps.means) now

pub abandon_leaves : InNoView → (society : List ℕ) (c : Content) (r : Request) (i : Import) (rows : Rows) (s : State)
    → KeepsImport society c r i rows → LeavesSeen s rows → LeavesArchive s society (λ found. found ≡ c)
abandon_leaves law society c r i rows s has leaves t l =
    let left = leaves t l in
    (c, refl, (left.0, left.1, seen_keeps society c rows left.0 left.2 (keeps_archive law society c r i rows has)))

-- ---- a refusal that is no failure of the database
pub memory_of : (kind : RefusalKind) → (kind ≡ OutOfMemory) ⊎ (kind ≡ Storage) → is_storage kind ≡ false
    → kind ≡ OutOfMemory
memory_of kind (inl want) sure = want
memory_of kind (inr lost) sure = absurd (true≢false (subst (λ k. is_storage k ≡ false) lost sure))
