-- From changes that were decided and written to the machine.
use Rattle.std.proofs.Common.{
  ◌≡◌,
  ◌≢◌,
  ◌⊎◌,
  inl,
  inr,
  ℕ,
  Bool,
  true,
  false,
  List,
  [],
  ◌∷◌,
  cond,
  Option,
  None,
  Some,
  Result,
  Ok,
  Err,
  refl,
  sym,
  ap,
  ◌∙◌,
  subst,
  true≢false,
}
use Rattle.std.specs.Prelude.{MatchOption}
use Rattle.std.specs.FinMap.{get}
use Rattle.sqlite.specs.State.{HasCleanDisk, Shows, State}
use Rattle.sqlite.specs.Tree.{Trees}
use Rattle.record_text.specs.declared.refusal.Refusal.{Refusal}
use Rattle.record_text.specs.declared.refusal.RefusalKind.{RefusalKind}
use Rattle.record_text.specs.declared.refusal.RefusalKind.TheVariants.{OutOfMemory, BadStored, Storage}
use Rattle.commands.specs.Rows.{is_want}
use Rattle.archive_state.specs.Looks.{is_stop}
use Rattle.receipts.specs.declared.answer.Answer.{Answer}
use Rattle.receipts.specs.declared.answer.Receipt.{Receipt}
use Rattle.archive_state.specs.Applied.{applied}
use Rattle.archive_state.specs.Changes.{Changes}
use Rattle.archive_state.specs.Content.{Content}
use Rattle.archive_state.specs.declared.changes.Kept.{Kept}
use Rattle.archive_state.specs.declared.changes.Numbered.{Numbered}
use Rattle.archive_core.specs.Applied.{Decides}
use Rattle.command_checks.specs.Exact.{ChangesNothing}
use Rattle.archive_core.specs.Exact.{IsExactFor}
use Rattle.archive_core.specs.Machine.{Does, outcome, request_digest}
use Rattle.archive_core.specs.Words.{HasUtf8Words}
use Rattle.archive_core.specs.declared.request.Request.{Request}
use Rattle.archive_core.proofs.Serving.{request_sound}
use Rattle.store_tables.specs.Calls.{LeavesOnly, Settled}
use Rattle.store_tables.specs.Rows.{Rows}
use Rattle.store_rows.specs.Meaning.{AllShallow}
use Rattle.store_rows.specs.Pasts.{FollowsAll, with_all_changes}
use Rattle.store_rows.specs.Spans.{AreDrawn, Drawn}
use Rattle.store_rows.proofs.Meaning.{changes_mean}
use Rattle.store_rows.proofs.PastsAside.{all_dated, all_links, all_means, all_society, all_sought, all_spans}
use Rattle.store_rows.proofs.SpansAside.{
  dated_means,
  dated_society,
  links_kept,
  sought_kept,
  spans_kept,
  stays_dated,
}
use Rattle.store.specs.Archives.{HasArchive, IsArchive, Keeps}
use Rattle.store.specs.Calls.{
  AcknowledgedBy,
  Acknowledges,
  HasWritten,
  LeavesDoneOrNot,
  LeavesEither,
  LeavesTogether,
  OnArchive,
  Performs,
}
use Rattle.store.specs.Histories.{Accepts, Allows, MayBeFound, has_failed, in_doubt, is_storage}
use Rattle.store.specs.Overwritten.{AddsValues, kept_values}
use Rattle.store.proofs.Closed.{changed_closed}
use Rattle.store.proofs.Overwritten.{adds_again, adds_anew}
use Rattle.store.proofs.Unchanged.{applies_nothing, rows_stay}
use Rattle.staging.proofs.Commits.{committed}

-- ---- a request whose token is kept
nothing_if_kept : (N : Type 0) (o : Option Receipt) (kept wanted : Option Kept) (k : Kept) → wanted ≡ Some k
    → MatchOption o (kept ≡ wanted) (λ _. N) → kept ≡ None → N
nothing_if_kept N None kept wanted k is h none = absurd cc
nothing_if_kept N (Some receipt) kept wanted k is h none = h

pub nothing_changes : (c : Content) (r : Request) (changes : Changes) → IsExactFor c r changes → changes.kept ≡ None
    → ChangesNothing c changes
nothing_changes c r changes exact none = nothing_if_kept _ (get c.receipts r.token) changes.kept _ _ refl exact.0 none

there_is : (N P : Type 0) (o : Option Receipt) → o ≢ None → MatchOption o P (λ _. N) → N
there_is N P None there h = absurd (there refl)
there_is N P (Some receipt) there h = h

pub writes_nothing : (c : Content) (r : Request) (changes : Changes) → IsExactFor c r changes
    → get c.receipts r.token ≢ None → changes.kept ≡ None
writes_nothing c r changes exact there = (there_is _ _ (get c.receipts r.token) there exact.0).kept

-- where something is written, it is kept under the token of the request
kept_so : (N : Type 0) (o : Option Receipt) (kept : Option Kept) (k : Kept)
    → MatchOption o (kept ≡ Some k) (λ _. N) → (N → kept ≡ None) → kept ≢ None → kept ≡ Some k
kept_so N None kept k is none some = is
kept_so N (Some receipt) kept k h none some = absurd (some (none h))

-- ---- what the archive is afterwards
module _ (society : List ℕ) (c : Content) (rows : Rows) (r : Request) (changes : Changes) (keeps : Keeps society c rows)
    (decided : Decides c (Ok changes) (outcome c r)) (words : HasUtf8Words r.command) where
  abbrev values : List Numbered
  values = kept_values c r.command changes

  keeps_on : (drawn : Drawn) → AreDrawn changes.puts drawn → (AllShallow c → AllShallow (applied c changes))
      → Keeps society (applied c changes) (with_all_changes changes drawn values rows)
  keeps_on drawn are shallow =
      let after = applied c changes in record {
        means = all_means changes drawn values rows after
            (dated_means changes drawn rows after (changes_mean changes rows c keeps.means));
        shallow = shallow keeps.shallow;
        sound = request_sound c after r (Ok changes.answer) words keeps.sound decided;
        society_is = all_society changes drawn values rows ∙ dated_society changes drawn rows ∙ keeps.society_is;
        dated = all_dated changes drawn values rows (stays_dated changes drawn rows keeps.dated);
        spans = all_spans changes drawn values rows after (spans_kept changes drawn rows c are keeps.spans);
        links = all_links changes drawn values rows after (links_kept changes drawn rows c keeps.links);
        soughts = all_sought changes drawn values rows after (sought_kept changes drawn rows c keeps.soughts);
      }

  adds_all : (drawn : Drawn) → IsExactFor c r changes → changes.kept ≢ None
      → AddsValues c r (applied c changes) rows (with_all_changes changes drawn values rows)
  adds_all drawn exact some =
      let k : Kept = record {
        token = r.token;
        receipt = record { digest = request_digest r; answer = changes.answer };
      } in
      adds_anew c r changes drawn rows k keeps.sound exact.1
      (kept_so (ChangesNothing c changes) (get c.receipts r.token) changes.kept k exact.0 (λ none. none.kept) some) refl

  pub acknowledged_anew : (new : State) → IsExactFor c r changes → changes.kept ≢ None
      → (AllShallow c → AllShallow (applied c changes))
      → HasWritten rows changes values new → AcknowledgedBy society c rows r changes.answer new
  acknowledged_anew new exact some shallow (drawn, are, settled) = (
    applied c changes,
    with_all_changes changes drawn values rows,
    decided,
    settled,
    keeps_on drawn are shallow,
    rows_stay c changes exact.1 drawn values rows keeps.sound,
    changed_closed changes drawn values rows,
    adds_all drawn exact some,
  )

  pub acknowledged_again : (new : State) → IsExactFor c r changes → changes.kept ≡ None → Settled new rows
      → AcknowledgedBy society c rows r changes.answer new
  acknowledged_again new exact none settled =
      let same = applies_nothing c changes (nothing_changes c r changes exact none) in
      let did = subst (λ d. Does c r (Ok changes.answer) d) same decided in
      (c, rows, did, settled, keeps, (λ m e. (refl, refl, refl)), (λ closed. closed), adds_again c r rows)

  pub together : (s : State) → IsExactFor c r changes → changes.kept ≢ None → LeavesEither s rows changes values
      → LeavesTogether s society c rows r
  together s exact some either t leaves = elim (either t leaves) [
    | inl before ↦ inl before
    | inr (drawn, are, good, shallow) ↦ inr (
      applied c changes,
      with_all_changes changes drawn values rows,
      (changes.answer, decided),
      good,
      keeps_on drawn are (shallow c),
      adds_all drawn exact some,
    )
  ]

pub done_or_not : (s : State) (society : List ℕ) (c : Content) (rows : Rows) (r : Request) → Keeps society c rows
    → LeavesTogether s society c rows r → LeavesDoneOrNot s society c r
done_or_not s society c rows r keeps both t leaves = elim (both t leaves) [
  | inl before ↦ inl (rows, before, keeps)
  | inr (after, now, did, good, still, adds) ↦ inr (after, did, (now, good, still))
]

-- ---- a request by itself
pub unless_failed : (b : Bool) (r : Request) → b ≡ false → cond b (Some r) None ≡ None
unless_failed b r e = ap (λ x. cond x (Some r) None) e

failed_is_doubted : (b : Bool) (r : Request) → cond b (Some r) None ≡ None → b ≡ false
failed_is_doubted false r e = refl
failed_is_doubted true r e = absurd cc

pub not_failed : (r : Request) (o : Result Answer Refusal) → in_doubt ((r, o) ∷ []) ≡ None → has_failed o ≡ false
not_failed r o e = failed_is_doubted (has_failed o) r e

-- what a stop leaves of a request that was answered
pub may_be_answered : (c after : Content) (r : Request) (o : Result Answer Refusal) → has_failed o ≡ false
    → Does c r o after → MayBeFound c ((r, o) ∷ []) after
may_be_answered c after r o sure did =
    subst (λ b. Allows c (cond b [] ((r, o) ∷ [])) (cond b (Some r) None) after) (sym sure) (after, did, refl)

-- and of one in doubt
pub may_be_before : (c : Content) (r : Request) (o : Result Answer Refusal) → has_failed o ≡ true
    → MayBeFound c ((r, o) ∷ []) c
may_be_before c r o lost = subst (λ b. Allows c (cond b [] ((r, o) ∷ [])) (cond b (Some r) None) c) (sym lost)
    (c, refl, inl refl)

pub may_be_done : (c after : Content) (r : Request) (o : Result Answer Refusal) → has_failed o ≡ true
    → Accepts c r after → MayBeFound c ((r, o) ∷ []) after
may_be_done c after r o lost did = subst (λ b. Allows c (cond b [] ((r, o) ∷ [])) (cond b (Some r) None) after)
    (sym lost) (c, refl, inr did)

-- ---- calls in a transaction, and its commit

pub settles : (old mid new : State) (changes : Changes) (values : List Numbered) (rows : Rows)
    → FollowsAll (record old { in_transaction = true }) mid changes values → Shows mid new mid.now mid.now false
    → rows.has_spans ≡ true → Settled old rows → HasWritten rows changes values new
settles old mid new changes values rows follows shows has was =
    let (drawn, are, inside, same) = follows rows has
    (record { is_open = was.is_open; inside = refl; schema = was.schema; good = was.good }) in
    (drawn, are, committed mid new (with_all_changes changes drawn values rows) inside shows)

-- ---- a request that is refused, or in doubt
pub stays_same : (s : State) (society : List ℕ) (c : Content) (rows : Rows) (r : Request)
    → LeavesOnly s rows → LeavesTogether s society c rows r
stays_same s society c rows r only t leaves = inl (only t leaves)

pub by_kept : {P : Type 0} (kept : Option Kept) → (kept ≡ None → P) → (kept ≢ None → P) → P
by_kept None f g = f refl
by_kept (Some k) f g = g (λ e. absurd cc)

pub no_stop : (k : RefusalKind) → is_want k ≡ false → is_storage k ≡ false → k ≢ BadStored → is_stop k ≡ false
no_stop OutOfMemory want storage bad = want
no_stop Storage want storage bad = storage
no_stop BadStored want storage bad = absurd (bad refl)
no_stop _ want storage bad = refl

pub want_refused : (c : Content) (r : Request) (kind : RefusalKind) → (kind ≡ OutOfMemory) ⊎ (kind ≡ Storage)
    → is_storage kind ≡ false
    → Does c r (Err (record { kind = kind; at = None })) c
want_refused c r kind (inl want) sure = (refl, λ none. absurd (true≢false (subst (λ k. is_want k ≡ false) want none)))
want_refused c r kind (inr lost) sure = absurd (true≢false (subst (λ k. is_storage k ≡ false) lost sure))

-- ---- one request as calls
pub ok_performs : (old new : State) (r : Request) (a : Answer) → Acknowledges old r a new
    → ((rows : Rows) → Settled new rows → LeavesOnly new rows) → HasCleanDisk old
    → Performs old ((r, Ok a) ∷ []) new
ok_performs old new r a ack leaves clean = record {
  done = λ none society c has.
      let did = ack society c has.0 has.1 has.2 in
      (did.0, (did.0, did.2, refl), (did.1, did.3, did.4));
  rows = λ none society c rows was keeps.
      let did = ack society c rows was keeps in
      (did.0, did.1, (did.0, did.1, did.2, did.5, did.7, (refl, refl)), did.3, did.4, did.6);
  crash = λ society c has t l.
      let did = ack society c has.0 has.1 has.2 in
      (did.0, (did.0, did.2, refl), (did.1, leaves did.1 did.3 t l, did.4));
  clean = clean;
}

-- where the refusal is no 80, the machine refuses, and the tables are as they were; in any case a crash leaves it done
-- or not
module _ (old new : State) (r : Request) (e : Refusal)
    (refused : is_storage e.kind ≡ false
    → OnArchive old (λ society c rows. Does c r (Err e) c × Settled new rows × LeavesOnly new rows))
    (crash : OnArchive old (λ society c rows. LeavesDoneOrNot new society c r)) where
  left_by : (b : Bool) → is_storage e.kind ≡ b → (society : List ℕ) (c : Content) → HasArchive society c old
      → (t : Trees) → new.may_leave t → (found : Content) × MayBeFound c ((r, Err e) ∷ []) found
      × IsArchive society found t
  left_by false sure society c has t l =
      let did = refused sure society c has.0 has.1 has.2 in
      (c, may_be_answered c c r (Err e) sure did.0, (has.0, did.2 t l, has.2))
  left_by true lost society c has t l = elim (crash society c has.0 has.1 has.2 t l) [
    | inl before ↦ (c, may_be_before c r (Err e) lost, before)
    | inr done ↦ (done.0, may_be_done c done.0 r (Err e) lost done.1, done.2)
  ]

  pub refusal_performs : HasCleanDisk old → Performs old ((r, Err e) ∷ []) new
  refusal_performs clean = record {
    done = λ none society c has.
        let did = refused (not_failed r (Err e) none) society c has.0 has.1 has.2 in
        (c, (c, did.0, refl), (has.0, did.1, has.2));
    rows = λ none society c rows was keeps.
        let did = refused (not_failed r (Err e) none) society c rows was keeps in (
          c,
          rows,
          (c, rows, did.0, (λ m same. (refl, refl, refl)), adds_again c r rows, (refl, refl)),
          did.1,
          keeps,
          λ closed. closed,
        );
    crash = left_by (is_storage e.kind) refl;
    clean = clean;
  }
