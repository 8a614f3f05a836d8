-- An archive that is taken up, from what the calls say that look at it, take imports out of it and make it anew.
use Rattle.std.proofs.Common.{
  ◌≡◌,
  ◌∙◌,
  ap,
  ap₂,
  arith,
  inl,
  inr,
  ℕ,
  suc,
  pos,
  Bool,
  true,
  false,
  not,
  List,
  [],
  ◌∷◌,
  map,
  Ok,
  Err,
  refl,
  sym,
  subst,
  true≢false,
}
use Rattle.std.specs.Prelude.{◌||◌, ◌&&◌, ◌⊎◌, ◌≢◌, IfErr, IsTrue, OnErr, OnOk, Result}
use Rattle.std.specs.List.{AllByRecursion, list_any}
use Rattle.sqlite.specs.Effect.{Database}
use Rattle.sqlite.specs.Order.{Row}
use Rattle.sqlite.specs.State.{HasCleanDisk, IsLive, State}
use Rattle.sqlite.specs.Tree.{Trees}
use Rattle.sqlite.specs.declared.types.Value.TheVariants.{Int}
use Rattle.archive_state.specs.Content.{Content}
use Rattle.archive_state.specs.Sound.{IsSound}
use Rattle.record_text.specs.declared.refusal.RefusalKind.{RefusalKind}
use Rattle.record_text.specs.declared.refusal.RefusalKind.TheVariants.{BadStored, Storage}
use Rattle.older_archives.specs.Anew.{IsAnew, IsSoundOld, OldContent}
use Rattle.store_rows.specs.Links.{KeepsLinks}
use Rattle.store_rows.specs.Meaning.{Means, is_closed}
use Rattle.store_rows.specs.Sought.{KeepsSought}
use Rattle.store_rows.specs.Spans.{IsDated, KeepsSpans}
use Rattle.store_tables.specs.Calls.{Good, LeavesOnly, Settled}
use Rattle.store_tables.specs.Looking.{IsFailure, Looks}
use Rattle.store_tables.specs.Rows.{BatchRow, Rows, batch_values}
use Rattle.store_tables.proofs.Reopening.{sound_once}
use Rattle.staged_rows.specs.Removing.{IsSeenAs}
use Rattle.staging.specs.Clearing.{IsCleared, LeavesSeen}
use Rattle.staging.specs.Opening.{LeavesOne}
use Rattle.older_archives.specs.Meaning.{AreSeenAlike, MeansAnew, MeansOld}
use Rattle.older_archives.specs.Renewing.{IsRenewed, LeavesRenewed}
use Rattle.store.specs.Adopting.{
  ClearsImports,
  HasNoImport,
  IsToClear,
  IsUnreadable,
  RenewsRows,
  ShowsSeen,
  StaysSettled,
  TakesUp,
  TakesUpAnew,
  has_import,
}
use Rattle.store.specs.Archives.{HasArchive, Keeps}
use Rattle.store.specs.Calls.{Stays}
use Rattle.store.specs.Earlier.{HadArchive, KeepsOld}
use Rattle.store.specs.Histories.{has_broken, is_storage}
use Rattle.store.proofs.Recognised.{fails_after}
use Rattle.staged_rows.proofs.Alike.{seen_same}
use Rattle.list_laws.proofs.Outcomes.{any_ok, ok_then}
use Rattle.list_laws.proofs.Booleans.{not_true}

-- ---- results

pub err_then : {A E : Type 0} {P Q : E → Type 0} (r : Result A E) → ((e : E) → P e → Q e) → IfErr r P → IfErr r Q
err_then (Ok a) f p = tt
err_then (Err e) f p = f e p

pub err_both : {A E : Type 0} {P Q R : E → Type 0} (r : Result A E) → ((e : E) → P e → Q e → R e) → IfErr r P
    → IfErr r Q → IfErr r R
err_both (Ok a) f p q = tt
err_both (Err e) f p q = f e p q

on_err : {A E P Q : Type 0} (r : Result A E) → (P → Q) → OnErr r P → OnErr r Q
on_err (Ok a) f p = tt
on_err (Err e) f p = f p

any_on_err : {A E P : Type 0} (r : Result A E) → P → OnErr r P
any_on_err (Ok a) p = tt
any_on_err (Err e) p = p

either_way : {A E P Q R : Type 0} (r : Result A E) → OnOk r P → OnErr r Q → (P → R) → (Q → R) → R
either_way (Ok a) p q f g = f p
either_way (Err e) p q f g = g q

any_err : {A E : Type 0} {P : E → Type 0} (r : Result A E) → ((e : E) → P e) → IfErr r P
any_err (Ok a) f = tt
any_err (Err e) f = f e

no_storage : (kind : RefusalKind) → is_storage kind ≡ false → kind ≡ Storage → ⊥
no_storage kind sure e = true≢false (sym (ap is_storage e) ∙ sure)

abbrev is_bad : RefusalKind → Bool
is_bad BadStored = true
is_bad _ = false

no_failure : (kind : RefusalKind) → kind ≡ BadStored → IsFailure kind → ⊥
no_failure kind e (inl want) = true≢false (sym (ap is_bad e) ∙ ap is_bad want)
no_failure kind e (inr lost) = true≢false (sym (ap is_bad e) ∙ ap is_bad lost)

-- ---- whether a batch is open
abbrev pub is_open : BatchRow → Bool
is_open b = b.is_open

-- the same of a row of its table
is_open_row : Row → Bool
is_open_row (number ∷ key ∷ Int (pos (suc n)) ∷ more) = true
is_open_row _ = false

open_row : (b : BatchRow) → is_open_row (batch_values b) ≡ b.is_open
unfolding is_open_row
open_row b = elim b.is_open as (λ x. is_open_row (batch_values (record { no = b.no; is_open = x })) ≡ x) [
  | true ↦ refl
  | false ↦ refl
]

open_rows : (bs : List BatchRow) → list_any is_open_row (map batch_values bs) ≡ list_any is_open bs
open_rows [] = refl
open_rows (b ∷ bs) = ap₂ (λ s t. s || t) (open_row b) (open_rows bs)

neither : (a b : Bool) → (a || b) ≡ false → (not a ≡ true) × (b ≡ false)
neither false b e = (refl, e)
neither true b e = absurd (true≢false e)

all_closed : (bs : List BatchRow) → list_any is_open bs ≡ false
    → AllByRecursion (λ (b : BatchRow). not b.is_open ≡ true) bs
all_closed [] none = tt
all_closed (b ∷ bs) none =
    let both = neither b.is_open (list_any is_open bs) none in
    (both.0, all_closed bs both.1)

none_open : (bs : List BatchRow) → AllByRecursion (λ (b : BatchRow). not b.is_open ≡ true) bs
    → list_any is_open bs ≡ false
none_open [] all = refl
none_open (b ∷ bs) all = ap₂ (λ s t. s || t) (not_true b.is_open all.0) (none_open bs all.1)

-- all rows of one tree say the same
pub no_import : (s : State) (rows : Rows) → Settled s rows → list_any is_open rows.batches ≡ false → HasNoImport s
no_import s rows was none others still =
    all_closed others.batches
    (sym (open_rows others.batches) ∙ ap (list_any is_open_row) (sym still.good.holds.batches.is)
    ∙ ap (list_any is_open_row) was.good.holds.batches.is ∙ open_rows rows.batches ∙ none)

-- ---- a look at the batches
abbrev pub Finds : Rows → Bool → Type 0
Finds rows some = some ≡ has_import rows.batches

none_of_two : (a b : Bool) → a ≡ true → false ≡ (a && b) → b ≡ false
none_of_two true b there none = sym none
none_of_two false b there none = absurd (true≢false (sym there))

not_both : (a b : Bool) → true ≡ (a && b) → b ≡ false → true ≡ false
not_both true b both none = both ∙ none
not_both false b both none = both

-- ---- imports are removed

pub none_found : (has_spans : Bool) (old new : State) → HasCleanDisk new → Looks Finds old new (Ok false)
    → ClearsImports has_spans old (Ok tt) new
none_found has_spans old new clean looks = record {
  cleared = λ rows it. (
    rows,
    looks.same clean rows it.settled,
    seen_same rows,
    all_closed rows.batches
        (none_of_two (is_closed 0 rows.batches) (list_any is_open rows.batches) it.batch
        (looks.read clean rows it.settled)),
  );
  stays = λ sure rows it. (rows, looks.same clean rows it.settled, seen_same rows);
  crash = λ rows it t l. (rows, looks.crash clean rows it.settled t l, seen_same rows);
  refused = tt;
  untouched = λ rows was all. ((λ sure. looks.same clean rows was), looks.crash clean rows was);
  clean = looks.clean clean;
}

-- it was refused, and the connection was asked whether it answers still
pub unknown : (has_spans : Bool) (old mid new : State) (kind result : RefusalKind) → HasCleanDisk mid
    → Looks Finds old mid (Err kind) → (is_storage result ≡ false → (rows : Rows) → LeavesOnly mid rows
    → Settled new rows) → ((t : Trees) → new.may_leave t → mid.may_leave t)
    → (is_storage result ≡ false → result ≡ kind) → ClearsImports has_spans old (Err result) new
unknown has_spans old mid new kind result before looks settled left same = record {
  cleared = tt;
  stays = λ sure rows it. (rows, settled sure rows (looks.crash before rows it.settled), seen_same rows);
  crash = λ rows it t l. (rows, looks.crash before rows it.settled t (left t l), seen_same rows);
  refused = λ rows was. fails_after (is_storage result) kind result refl same (looks.refused before rows was);
  untouched = λ rows was all. (
    (λ sure. settled sure rows (looks.crash before rows was)),
    (λ t l. looks.crash before rows was t (left t l)),
  );
  clean = looks.clean before;
}

-- one was found, and what is open is removed
pub some_found : (has_spans : Bool) (old mid new : State) (r : Result (Unit {0}) RefusalKind) → HasCleanDisk mid
    → Looks Finds old mid (Ok true)
    → OnOk r ((rows : Rows) → IsToClear has_spans mid rows → IsCleared new rows)
    → (has_broken r ≡ false → (rows : Rows) → IsToClear has_spans mid rows → ShowsSeen new rows)
    → ((rows : Rows) → IsToClear has_spans mid rows → LeavesSeen new rows)
    → IfErr r (λ kind. (rows : Rows) → Settled mid rows → IsFailure kind)
    → ClearsImports has_spans old r new
some_found has_spans old mid new r before looks cleared stays crash refused = record {
  cleared = ok_then r (λ done rows it. done rows (there rows it)) cleared;
  stays = λ sure rows it. stays sure rows (there rows it);
  crash = λ rows it. crash rows (there rows it);
  refused = err_then r (λ kind told rows was. told rows (looks.same before rows was)) refused;
  untouched = λ rows was all.
      absurd (true≢false
      (not_both (is_closed 0 rows.batches) (list_any is_open rows.batches) (looks.read before rows was)
      (none_open rows.batches all)));
  clean = looks.clean before;
}
  where
    there : (rows : Rows) → IsToClear has_spans old rows → IsToClear has_spans mid rows
    there rows it = record {
      settled = looks.same before rows it.settled;
      schema = it.schema;
      batch = it.batch;
    }

-- the removal was refused, and the connection was asked whether it answers still
pub shows_one : (mid new : State) (kind result : RefusalKind) (rows : Rows) → is_storage result ≡ false
    → (is_storage result ≡ false → result ≡ kind)
    → (is_storage result ≡ false → (other : Rows) → LeavesOnly mid other → Settled new other)
    → (kind ≡ Storage) ⊎ LeavesOne mid rows → ShowsSeen new rows
shows_one mid new kind result rows sure same settled (inl e) = absurd (no_storage result sure (same sure ∙ e))
shows_one mid new kind result rows sure same settled (inr one) = (one.0, settled sure one.0 one.1, one.2)

-- ---- an archive of the second version is taken up
not_both_versions : (n : ℕ) → n ≡ 1 → n ≡ 2 → ⊥
not_both_versions n one two = omega (arith, one, two)

module _ (means : (rows other : Rows) (c : Content) → IsSeenAs rows other → Means rows c → Means other c)
    (spans : (rows other : Rows) (c : Content) → IsSeenAs rows other → Means rows c → KeepsSpans rows c
    → KeepsSpans other c)
    (links : (rows other : Rows) (c : Content) → IsSeenAs rows other → Means rows c → KeepsLinks rows c
    → KeepsLinks other c)
    (soughts : (rows other : Rows) (c : Content) → IsSeenAs rows other → Means rows c → KeepsSought rows c
    → KeepsSought other c) where
  seen_keeps : (society : List ℕ) (c : Content) (rows other : Rows) → IsSeenAs rows other → Keeps society c rows
      → Keeps society c other
  seen_keeps society c rows other seen keeps = record {
    means = means rows other c seen keeps.means;
    shallow = keeps.shallow;
    sound = keeps.sound;
    society_is = seen.society ∙ keeps.society_is;
    dated = record {
      version = seen.version ∙ keeps.dated.version;
      has_spans = seen.has_spans ∙ keeps.dated.has_spans;
    };
    spans = spans rows other c seen keeps.means keeps.spans;
    links = links rows other c seen keeps.means keeps.links;
    soughts = soughts rows other c seen keeps.means keeps.soughts;
  }

  module _ (old mid new : State) (r : Result (Unit {0}) RefusalKind) (still : Stays old false mid)
      (clears : ClearsImports true mid r new) where
    to_clear : (society : List ℕ) (c : Content) → (has : HasArchive society c old) → IsToClear true mid has.0
    to_clear society c has = record {
      settled = still.same refl has.0 has.1;
      schema = has.2.dated.has_spans;
      batch = has.2.means.batch;
    }

    pub second_taken : ((rows : Rows) → Settled old rows → rows.version ≡ 2) → TakesUp old r new
    second_taken shows = record {
      keeps = record {
        same = λ sure society c has.
            let out = clears.stays sure has.0 (to_clear society c has) in
            (out.0, out.1, seen_keeps society c has.0 out.0 out.2 has.2);
        crash = λ society c has t l.
            let out = clears.crash has.0 (to_clear society c has) t l in
            (c, refl, (out.0, out.1, seen_keeps society c has.0 out.0 out.2 has.2));
        clean = still.clean;
      };
      pasts = record {
        same = λ sure society c rows was keeps.
            let out = clears.stays sure rows (to_clear society c (rows, was, keeps)) in
            (out.0, out.1, (seen_keeps society c rows out.0 out.2 keeps, out.2.pasts));
        crash = λ society c rows was keeps t l.
            let out = clears.crash rows (to_clear society c (rows, was, keeps)) t l in
            (out.0, out.1, (seen_keeps society c rows out.0 out.2 keeps, out.2.pasts));
      };
      finished = ok_then r (λ done society c has.
          let out = done has.0 (to_clear society c has) in
          no_import new out.0 out.1 (none_open out.0.batches out.3)) clears.cleared;
      refused = err_then r (λ kind told society c has. told has.0 (still.same refl has.0 has.1)) clears.refused;
      untouched = λ rows was dated all. clears.untouched rows (still.same refl rows was) all;
      anew = record {
        finished = any_ok r (λ society c had. absurd (none society c had));
        shows = λ sure society c had. absurd (none society c had);
        refused = any_err r (λ kind society c had. absurd (none society c had));
        crash = λ society c had. absurd (none society c had);
      };
    }
      where
        none : (society : List ℕ) (c : Content) → HadArchive society c old → ⊥
        none society c had = not_both_versions had.2.0.version had.2.2.means.version (shows had.2.0 had.2.1)

-- ---- an archive of the first version is taken up
module _ (old mid new : State) (r : Result (Unit {0}) RefusalKind) (still : Stays old false mid)
    (takes : TakesUpAnew mid r new) where
  had_still : (society : List ℕ) (c : Content) → HadArchive society c old → HadArchive society c mid
  had_still society c had = (had.0, had.1, (had.2.0, still.same refl had.2.0 had.2.1, had.2.2))

  pub first_taken : ((rows : Rows) → Settled old rows → rows.version ≡ 1) → TakesUp old r new
  first_taken shows = record {
    keeps = record {
      same = λ sure society c has. absurd (none has.0 has.1 has.2.dated);
      crash = λ society c has. absurd (none has.0 has.1 has.2.dated);
      clean = still.clean;
    };
    pasts = record {
      same = λ sure society c rows was keeps. absurd (none rows was keeps.dated);
      crash = λ society c rows was keeps. absurd (none rows was keeps.dated);
    };
    finished = any_ok r (λ society c has. absurd (none has.0 has.1 has.2.dated));
    refused = any_err r (λ kind society c has. absurd (none has.0 has.1 has.2.dated));
    untouched = λ rows was dated all. absurd (none rows was dated);
    anew = record {
      finished = ok_then r (λ done society c had. done society c (had_still society c had)) takes.finished;
      shows = λ sure society c had. takes.shows sure society c (had_still society c had);
      refused = err_then r (λ kind failure society c had. failure society c (had_still society c had)) takes.refused;
      crash = λ society c had. takes.crash society c (had_still society c had);
    };
  }
    where
      none : (rows : Rows) → Settled old rows → IsDated rows → ⊥
      none rows was dated = not_both_versions rows.version (shows rows was) dated.version

-- a store was not recognised
pub not_recognised : (old new : State) (kind : RefusalKind) → Stays old (is_storage kind) new
    → ((rows : Rows) → Settled old rows → IsFailure kind) → TakesUp old (Err kind) new
not_recognised old new kind still refused = record {
  keeps = record {
    same = λ sure society c has. (has.0, still.same sure has.0 has.1, has.2);
    crash = λ society c has t l. (c, refl, (has.0, still.crash has.0 has.1 t l, has.2));
    clean = still.clean;
  };
  pasts = record {
    same = λ sure society c rows was keeps. (rows, still.same sure rows was, (keeps, refl));
    crash = λ society c rows was keeps t l. (rows, still.crash rows was t l, (keeps, refl));
  };
  finished = tt;
  refused = λ society c has. refused has.0 has.1;
  untouched = λ rows was dated all. ((λ sure. still.same sure rows was), still.crash rows was);
  anew = record {
    finished = tt;
    shows = λ sure society c had. inr (had.0, had.1, (had.2.0, still.same sure had.2.0 had.2.1, had.2.2));
    refused = λ society c had. refused had.2.0 had.2.1;
    crash = λ society c had t l. inr (had.0, had.1, (had.2.0, still.crash had.2.0 had.2.1 t l, had.2.2));
  };
}

-- ---- it is converted
seen_alike : (rows other : Rows) → IsSeenAs rows other → AreSeenAlike rows other
seen_alike rows other seen = record {
  version = seen.version;
  has_spans = seen.has_spans;
  next = seen.next;
  receipts = seen.receipts;
  slips = seen.slips;
  slip_lines = seen.slip_lines;
  slip_packs = seen.slip_packs;
  batch = seen.batch;
  recorded = seen.recorded;
  lines = seen.lines;
}

module _ (alike : (rows other : Rows) (before : OldContent) → AreSeenAlike rows other → MeansOld rows before
    → MeansOld other before) where
  seen_old : (society : List ℕ) (before : OldContent) (rows other : Rows) → IsSeenAs rows other
      → KeepsOld society before rows → KeepsOld society before other
  seen_old society before rows other seen keeps = record {
    means = alike rows other before (seen_alike rows other seen) keeps.means;
    shallow = keeps.shallow;
    sound = keeps.sound;
    society_is = seen.society ∙ keeps.society_is;
  }

  to_clear_old : (old : State) (society : List ℕ) (c : Content) → (had : HadArchive society c old)
      → IsToClear false old had.2.0
  to_clear_old old society c had = record {
    settled = had.2.1;
    schema = had.2.2.means.has_spans;
    batch = had.2.2.means.batch;
  }

  -- imports were not removed
  pub not_cleared : (old new : State) (kind : RefusalKind) → ClearsImports false old (Err kind) new
      → TakesUpAnew old (Err kind) new
  not_cleared old new kind clears = record {
    finished = tt;
    shows = λ sure society c had.
        let out = clears.stays sure had.2.0 (to_clear_old old society c had) in
        inr (had.0, had.1, (out.0, out.1, seen_old society had.0 had.2.0 out.0 out.2 had.2.2));
    refused = λ society c had. clears.refused had.2.0 had.2.1;
    crash = λ society c had t l.
        let out = clears.crash had.2.0 (to_clear_old old society c had) t l in
        inr (had.0, had.1, (out.0, out.1, seen_old society had.0 had.2.0 out.0 out.2 had.2.2));
  }

  -- they were
  module _ (sound : (before : OldContent) (c : Content) → IsSoundOld before → IsAnew before c → IsSound c)
      (old mid new : State) (r : Result (Unit {0}) RefusalKind) (clears : ClearsImports false old (Ok tt) mid)
      (renews : RenewsRows mid r new) where
    module _ (society : List ℕ) (c : Content) (had : HadArchive society c old) where
      cleared : IsCleared mid had.2.0
      cleared = clears.cleared had.2.0 (to_clear_old old society c had)

      keeps_old : KeepsOld society had.0 cleared.0
      keeps_old = seen_old society had.0 had.2.0 cleared.0 cleared.2 had.2.2

      means_anew : MeansAnew cleared.0 c
      means_anew = (had.0, keeps_old.means, had.1, keeps_old.shallow)

      keeps_anew : (after : Rows) → IsRenewed cleared.0 c after → Keeps society c after
      keeps_anew after is = record {
        means = is.means;
        shallow = is.shallow;
        sound = sound had.0 c keeps_old.sound had.1;
        society_is = is.society ∙ keeps_old.society_is;
        dated = is.dated;
        spans = is.spans;
        links = is.links;
        soughts = is.soughts;
      }

      none_open_anew : (after : Rows) → IsRenewed cleared.0 c after → list_any is_open after.batches ≡ false
      none_open_anew after is = ap (list_any is_open) is.batches ∙ none_open cleared.0.batches cleared.3

    pub made_anew : TakesUpAnew old r new
    made_anew = record {
      finished = ok_then r (λ done society c had.
          let made = done (cleared society c had).0 c (cleared society c had).1 (means_anew society c had) in
          let keeps = keeps_anew society c had made.0 made.1 in (
            (made.0, made.2, keeps),
            no_import new made.0 made.2 (none_open_anew society c had made.0 made.1),
            (λ t l. (c, refl, (made.0, made.3 t l, keeps))),
          )) renews.done;
      shows = λ sure society c had. either_way r renews.done (renews.stays sure)
          (λ done.
          let made = done (cleared society c had).0 c (cleared society c had).1 (means_anew society c had) in
          inl (made.0, made.2, keeps_anew society c had made.0 made.1))
          (λ same. inr (
            had.0,
            had.1,
            (
              (cleared society c had).0,
              (same (cleared society c had).0 (cleared society c had).1).0,
              keeps_old society c had,
            ),
          ));
      refused = err_then r (λ kind told society c had.
          told (cleared society c had).0 c (cleared society c had).1 (means_anew society c had)) renews.refused;
      crash = λ society c had t l. elim
          (renews.crash (cleared society c had).0 c (cleared society c had).1 (means_anew society c had) t l) [
            | inl good ↦ inr (had.0, had.1, ((cleared society c had).0, good, keeps_old society c had))
            | inr made ↦ inl (made.0, made.2, keeps_anew society c had made.0 made.1)
          ];
    }

-- ---- the rows are read anew
pub renewed : (old new : State)
    → ((rows : Rows) (c : Content) → Settled old rows → MeansAnew rows c
    → (after : Rows) × IsRenewed rows c after × Settled new after)
    → ((rows : Rows) → Settled new rows → LeavesOnly new rows)
    → ((rows : Rows) (c : Content) → Settled old rows → MeansAnew rows c → LeavesRenewed new rows c)
    → HasCleanDisk old → RenewsRows old (Ok tt) new
renewed old new done only crash clean = record {
  done = λ rows c was means.
      let made = done rows c was means in
      (made.0, made.1, made.2, only made.0 made.2);
  stays = λ sure. tt;
  crash = crash;
  refused = tt;
  clean = clean;
}

-- they were not, and the connection was asked whether it answers still
pub not_renewed : (old mid new : State) (kind result : RefusalKind)
    → (kind ≢ Storage → (rows : Rows) → Settled old rows → LeavesOnly mid rows)
    → (is_storage result ≡ false → result ≡ kind)
    → (is_storage result ≡ false → (rows : Rows) → LeavesOnly mid rows → Settled new rows)
    → ((rows : Rows) (c : Content) → Settled old rows → MeansAnew rows c → LeavesRenewed mid rows c)
    → ((t : Trees) → new.may_leave t → mid.may_leave t)
    → ((rows : Rows) (c : Content) → Settled old rows → MeansAnew rows c → IsFailure kind) → HasCleanDisk old
    → RenewsRows old (Err result) new
not_renewed old mid new kind result undone same settled crash left refused clean = record {
  done = tt;
  stays = λ sure rows was.
      let only = undone (λ e. no_storage result sure (same sure ∙ e)) rows was in
      (settled sure rows only, λ t l. only t (left t l));
  crash = λ rows c was means t l. crash rows c was means t (left t l);
  refused = λ rows c was means.
      fails_after (is_storage result) kind result refl same (refused rows c was means);
  clean = clean;
}

-- ---- an archive is not taken up, though the database did not fail
pub settled_unknown : (old new : State) (failed : Bool) → Stays old failed new → failed ≡ false → StaysSettled old new
settled_unknown old new failed still sure = record {
  same = λ rows was all. (still.same sure rows was, still.crash rows was);
  seen = λ rows first it. (
    (rows, still.same sure rows it.settled, seen_same rows),
    (λ t l. (rows, still.crash rows it.settled t l, seen_same rows)),
  );
}

pub settled_second : (old mid new : State) (r : Result (Unit {0}) RefusalKind) → Stays old false mid
    → ClearsImports true mid r new → ((rows : Rows) → Settled old rows → rows.version ≡ 2) → has_broken r ≡ false
    → OnErr r (StaysSettled old new)
settled_second old mid new r still clears shows sure = any_on_err r (record {
  same = λ rows was all.
      let kept = clears.untouched rows (still.same refl rows was) all in
      (kept.0 sure, kept.1);
  seen = λ rows first it. absurd (not_both_versions rows.version first (shows rows it.settled));
})

pub settled_first : (old mid new : State) (r : Result (Unit {0}) RefusalKind) → Stays old false mid
    → OnErr r (StaysSettled mid new) → OnErr r (StaysSettled old new)
settled_first old mid new r still stays = on_err r (λ (it : StaysSettled mid new). record {
  same = λ rows was all. it.same rows (still.same refl rows was) all;
  seen = λ rows first to. it.seen rows first
      (record { settled = still.same refl rows to.settled; schema = to.schema; batch = to.batch });
}) stays

pub settled_not_cleared : (old new : State) (kind : RefusalKind) → ClearsImports false old (Err kind) new
    → is_storage kind ≡ false → StaysSettled old new
settled_not_cleared old new kind clears sure = record {
  same = λ rows was all.
      let kept = clears.untouched rows was all in
      (kept.0 sure, kept.1);
  seen = λ rows first it. (clears.stays sure rows it, clears.crash rows it);
}

pub settled_cleared : (old mid new : State) (r : Result (Unit {0}) RefusalKind) → ClearsImports false old (Ok tt) mid
    → RenewsRows mid r new → has_broken r ≡ false → OnErr r (StaysSettled old new)
settled_cleared old mid new r clears renews sure = on_err r (λ stays. record {
  same = λ rows was all. stays rows ((clears.untouched rows was all).0 refl);
  seen = λ rows first it.
      let out = clears.cleared rows it in
      let now = stays out.0 out.1 in
      ((out.0, now.0, out.2), (λ t l. (out.0, now.1 t l, out.2)));
}) (renews.stays sure)

-- 40 is reported of rows that mean no archive of the first version
pub unread_not_cleared : (old new : State) (kind : RefusalKind) → ClearsImports false old (Err kind) new
    → kind ≡ BadStored → IsUnreadable old
unread_not_cleared old new kind clears e rows c was means = no_failure kind e (clears.refused rows was)

pub unread_cleared : ((rows other : Rows) (c : Content) → AreSeenAlike rows other → MeansAnew rows c
    → MeansAnew other c) → (old mid new : State) (r : Result (Unit {0}) RefusalKind)
    → ClearsImports false old (Ok tt) mid → RenewsRows mid r new
    → IfErr r (λ kind. kind ≡ BadStored → IsUnreadable old)
unread_cleared alike old mid new r clears renews = err_then r (λ kind told e rows c was means.
    let out = clears.cleared rows
    (record { settled = was; schema = means.1.has_spans; batch = means.1.batch }) in
    no_failure kind e (told out.0 c out.1 (alike rows out.0 c (seen_alike rows out.0 out.2) means))) renews.refused

pub unread_second : (old : State) → ((rows : Rows) → Settled old rows → rows.version ≡ 2) → IsUnreadable old
unread_second old shows rows c was means =
    not_both_versions rows.version means.1.version (shows rows was)

-- ---- a connection that shows a version still
module _ (new : State) (is_open : IsTrue new.is_open) (ended : new.in_transaction ≡ false)
    (settled : new.now ≡ new.committed) (live : IsLive new) where
  pub settled_again : (rows : Rows) → Good rows new.committed.trees → Settled new rows
  settled_again rows kept =
      let good : Good rows new.now.trees = subst (λ (d : Database). Good rows d.trees) (sym settled) kept in
      record {
        is_open = is_open;
        autocommit = ended;
        settled = sym settled;
        schema = sound_once rows.has_spans new.now.schema new.now.trees good.sound (live is_open).0;
        good = good;
      }
