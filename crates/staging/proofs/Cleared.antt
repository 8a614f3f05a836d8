-- Commits that take rows of numbers out, one after the other.
use Rattle.std.proofs.Common.{◌≡◌, ◌⊎◌, inl, inr, ℕ, Bool, true, false, ap, subst, ◌∙◌, List, Result, Ok, Err, OnOk}
use Rattle.std.specs.Result.{IsErr}
use Rattle.sqlite.specs.State.{State, HasCleanDisk}
use Rattle.sqlite.specs.Tree.{Trees}
use Rattle.record_text.specs.declared.refusal.RefusalKind.{RefusalKind}
use Rattle.store_tables.specs.Calls.{Good, LeavesOnly, Settled}
use Rattle.store_tables.specs.Looking.{Looks}
use Rattle.store_tables.specs.Rows.{LinkRow, Rows, without_batch_row}
use Rattle.store_tables.proofs.Calls.{on_ok}
use Rattle.store_rows.specs.Meaning.{is_closed}
use Rattle.store_rows.specs.Links.{without_all_links}
use Rattle.store_rows.specs.Spans.{without_all_of, without_all_spans}
use Rattle.store_rows.proofs.SpansAside.{left_has, sought_left_has}
use Rattle.store_rows.specs.Writing.{without_records}
use Rattle.staged_rows.specs.Removing.{AreAside, AreLinksAside, AreOf, IsSeenAs, without_batch, without_later}
use Rattle.staged_rows.proofs.Taken.{all_of_out, batches_stay, later_out, links_aside}
use Rattle.staging.specs.Clearing.{Clears, LeavesEither, LeavesSeen}
use Rattle.staging.proofs.Seen.{aside_seen}
use Rattle.staged_rows.proofs.Removed.{batch_gone}
use Rattle.staged_rows.proofs.Alike.{seen_same, seen_then}

-- ---- what a stop leaves
pub leaves_seen : (rows : Rows) (s : State) → LeavesOnly s rows → LeavesSeen s rows
leaves_seen rows s only t may = (rows, only t may, seen_same rows)

pub seen_on : (rows other : Rows) (s : State) → IsSeenAs rows other → LeavesSeen s other → LeavesSeen s rows
seen_on rows other s seen leaves t may =
    let found = leaves t may in
    (found.0, found.1, seen_then rows other found.0 seen found.2)

pub either_seen : (rows after : Rows) (s : State) → IsSeenAs rows after → LeavesEither s rows after
    → LeavesSeen s rows
either_seen rows after s seen leaves t may = of_two (leaves t may)
  where
    of_two : Good rows t ⊎ Good after t → (other : Rows) × Good other t × IsSeenAs rows other
    of_two (inl good) = (rows, good, seen_same rows)
    of_two (inr good) = (after, good, seen)

-- ---- a single commit
-- after which the same is seen, where the numbers have no record
pub one_commit : {A E : Type 0} (ns : List ℕ) (Is : Rows → Rows → Type 0) (f : Rows → Rows) (old new : State)
    (result : Result A E)
    → (HasCleanDisk new → OnOk result ((rows : Rows) → Settled old rows → Settled new (f rows)))
    → (HasCleanDisk new → (rows : Rows) → Settled old rows → LeavesEither new rows (f rows))
    → (HasCleanDisk new → HasCleanDisk old) → ((rows : Rows) → Is rows (f rows))
    → ((rows : Rows) → AreAside ns rows → IsSeenAs rows (f rows)) → Clears ns Is old new result
one_commit ns Is f old new result done crash clean is seen = record {
  done = λ ok. on_ok result (λ d rows was. (f rows, d rows was, is rows, seen rows)) (done ok);
  crash = λ ok rows was aside. either_seen rows (f rows) new (seen rows aside) (crash ok rows was);
  clean = clean;
}

-- ---- commits one after the other
-- what is made so far, from a function's entry to here
abbrev pub IsOnTheWay : List ℕ → (Rows → Rows → Type 0) → State → State → Type 0
IsOnTheWay ns Is old now = Clears {A = Unit {0}} {E = Unit {0}} ns Is old now (Ok tt)

pub clears_then : {A E : Type 0} {ns : List ℕ} {P Q : Rows → Rows → Type 0} (R : Rows → Rows → Type 0)
    {old mid new : State} (result : Result A E) → IsOnTheWay ns P old mid → Clears ns Q mid new result
    → ((x y z : Rows) → P x y → Q y z → R x z) → Clears ns R old new result
clears_then {ns = ns} R {new = new} result h k joins = record {
  done = λ ok. on_ok result
      (λ d rows was.
      let one = h.done (k.clean ok) rows was in
      let two = d one.0 one.1 in (
        two.0,
        two.1,
        joins rows one.0 two.0 one.2 two.2,
        λ aside.
            let seen = one.3 aside in
            seen_then rows one.0 two.0 seen (two.3 (aside_seen ns rows one.0 seen aside)),
      ))
      (k.done ok);
  crash = λ ok rows was aside.
      let one = h.done (k.clean ok) rows was in
      let seen = one.3 aside in
      seen_on rows one.0 new seen (k.crash ok one.0 one.1 (aside_seen ns rows one.0 seen aside));
  clean = λ ok. h.clean (k.clean ok);
}

-- with another value, or another relation that the first one gives
pub clears_as : {A B E F : Type 0} {ns : List ℕ} {P : Rows → Rows → Type 0} (Q : Rows → Rows → Type 0)
    {old new : State} (a : A) (b : B) → Clears {A = A} {E = E} ns P old new (Ok a)
    → ((x y : Rows) → P x y → Q x y) → Clears {A = B} {E = F} ns Q old new (Ok b)
clears_as Q a b h f = record {
  done = λ ok rows was.
      let one = h.done ok rows was in
      (one.0, one.1, f rows one.0 one.2, one.3);
  crash = h.crash;
  clean = h.clean;
}

-- what was made before an error
pub clears_lost : {B E F : Type 0} {ns : List ℕ} {P : Rows → Rows → Type 0} (Q : Rows → Rows → Type 0)
    {old new : State} (e : E) (result : Result B F) → IsErr result → Clears {A = Unit {0}} {E = E} ns P old new (Err e)
    → Clears ns Q old new result
clears_lost Q e (Ok b) is h = absurd cc
clears_lost Q e (Err f) is h = record { done = λ ok. tt; crash = h.crash; clean = h.clean }

pub as_lost : {A E : Type 0} {ns : List ℕ} {P : Rows → Rows → Type 0} {old new : State} {e : E}
    → Clears {A = A} {E = E} ns P old new (Err e) → Clears {A = Unit {0}} {E = E} ns P old new (Err e)
as_lost h = record { done = λ ok. tt; crash = h.crash; clean = h.clean }

-- nothing is made yet
pub begun : (ns : List ℕ) (Is : Rows → Rows → Type 0) (s : State)
    → ((rows : Rows) (t : Trees) → Settled s rows → s.may_leave t → Good rows t) → ((rows : Rows) → Is rows rows)
    → IsOnTheWay ns Is s s
begun ns Is s leaves is = record {
  done = λ ok rows was. (rows, was, is rows, λ aside. seen_same rows);
  crash = λ ok rows was aside. leaves_seen rows s (λ t. leaves rows t was);
  clean = λ ok. ok;
}

-- a call that only reads
pub looked : {A : Type 0} (ns : List ℕ) {P : Rows → A → Type 0} (Is : Rows → Rows → Type 0) {old new : State} (a : A)
    → Looks P old new (Ok a) → ((rows : Rows) → Is rows rows) → IsOnTheWay ns Is old new
looked ns Is {new = new} a h is = record {
  done = λ ok rows was. (rows, h.same ok rows was, is rows, λ aside. seen_same rows);
  crash = λ ok rows was aside. leaves_seen rows new (h.crash ok rows was);
  clean = h.clean;
}

pub looked_in_vain : {A B E : Type 0} (ns : List ℕ) {P : Rows → A → Type 0} (Is : Rows → Rows → Type 0)
    {old new : State} (kind : RefusalKind) (result : Result B E) → IsErr result → Looks P old new (Err kind)
    → Clears ns Is old new result
looked_in_vain ns Is kind (Ok b) is h = absurd cc
looked_in_vain ns Is {new = new} kind (Err e) is h = record {
  done = λ ok. tt;
  crash = λ ok rows was aside. leaves_seen rows new (h.crash ok rows was);
  clean = h.clean;
}

pub nothing_done : {A E : Type 0} (P : Type 0) (result : Result A E) → IsErr result → OnOk result P
nothing_done P (Ok a) is = absurd cc
nothing_done P (Err e) is = tt

-- ---- a batch: what goes first, then the lines and rows of its numbers, and its own row after all others
module _ {A E : Type 0} (has_spans : Bool) (ns : List ℕ) (ls : List LinkRow) (old mid new : State) (result : Result A E)
    (undated : HasCleanDisk mid → (rows : Rows) → Settled old rows → rows.has_spans ≡ has_spans
    → Settled mid (without_later ns ls rows)) where
  -- the spans and the links are gone, and the lines and the rows are being removed
  pub rows_leave : {Is : Rows → Rows → Type 0} → Clears ns Is mid new result → HasCleanDisk new → (rows : Rows)
      → Settled old rows → rows.has_spans ≡ has_spans → AreAside ns rows → AreOf ns ls → LeavesSeen new rows
  rows_leave takes ok rows was has aside are =
      let less = without_later ns ls rows in
      let seen = later_out ns ls rows aside are in
      seen_on rows less new seen
      (takes.crash ok less (undated (takes.clean ok) rows was has) (aside_seen ns rows less seen aside))

module _ {A E : Type 0} (has_spans : Bool) (batch : ℕ) (ns : List ℕ) (ls : List LinkRow) (old one mid new : State)
    (result : Result A E)
    (undated : HasCleanDisk one → (rows : Rows) → Settled old rows → rows.has_spans ≡ has_spans
    → Settled one (without_later ns ls rows))
    (way : IsOnTheWay ns (λ rows after. after ≡ without_records ns rows) one mid)
    (clean : HasCleanDisk new → HasCleanDisk mid) where
  pub batch_taken : (HasCleanDisk new
      → OnOk result ((rows : Rows) → Settled mid rows → Settled new (without_batch_row batch rows)))
      → HasCleanDisk new
      → OnOk result ((rows : Rows) → Settled old rows → rows.has_spans ≡ has_spans
      → Settled new (without_batch batch ns ls rows))
  batch_taken done ok = on_ok result
      (λ d rows was has.
      let here = undated (way.clean (clean ok)) rows was has in
      let came = way.done (clean ok) (without_later ns ls rows) here in
      subst (λ less. Settled new (without_batch_row batch less)) came.2 (d came.0 came.1))
      (done ok)

  pub batch_leaves : (HasCleanDisk new → (rows : Rows) → Settled mid rows
      → LeavesEither new rows (without_batch_row batch rows))
      → HasCleanDisk new → (rows : Rows) → Settled old rows → rows.has_spans ≡ has_spans
      → is_closed batch rows.batches ≡ false → AreAside ns rows → AreOf ns ls → LeavesSeen new rows
  batch_leaves crash ok rows was has unclosed aside are =
      let less = without_later ns ls rows in
      let here = undated (way.clean (clean ok)) rows was has in
      let one = later_out ns ls rows aside are in
      let came = way.done (clean ok) less here in
      let two = came.3 (aside_seen ns rows less one aside) in
      let open_still : is_closed batch came.0.batches ≡ false = ap (λ (r : Rows). is_closed batch r.batches) came.2
      ∙ ap (is_closed batch) (batches_stay ns ls rows) ∙ unclosed in
      seen_on rows came.0 new (seen_then rows less came.0 one two)
      (either_seen came.0 (without_batch_row batch came.0) new (batch_gone batch came.0 open_still)
      (crash ok came.0 came.1))

-- ---- spans first, and then links, of tables that have spans
module _ {A E : Type 0} (ns : List ℕ) (ls : List LinkRow) (old mid new : State) (result : Result A E)
    (first : HasCleanDisk mid → (rows : Rows) → Settled old rows → rows.has_spans ≡ true
    → Settled mid (without_all_of ns rows)) (clean : HasCleanDisk new → HasCleanDisk mid) where
  has_still : (rows : Rows) → (without_all_of ns rows).has_spans ≡ rows.has_spans
  has_still rows = sought_left_has ns (without_all_spans ns rows) ∙ left_has ns rows

  pub later_taken : (HasCleanDisk new → OnOk result ((rows : Rows) → Settled mid rows → rows.has_spans ≡ true
      → Settled new (without_all_links ls rows))) → HasCleanDisk new
      → OnOk result ((rows : Rows) → Settled old rows → rows.has_spans ≡ true
      → Settled new (without_later ns ls rows))
  later_taken done ok = on_ok result (λ d rows was has.
      d (without_all_of ns rows) (first (clean ok) rows was has) (has_still rows ∙ has)) (done ok)

  pub later_leaves : (HasCleanDisk new → (rows : Rows) → Settled mid rows → rows.has_spans ≡ true
      → AreLinksAside ls rows → LeavesSeen new rows) → HasCleanDisk new → (rows : Rows) → Settled old rows
      → rows.has_spans ≡ true → AreAside ns rows → AreOf ns ls → LeavesSeen new rows
  later_leaves crash ok rows was has aside are =
      let less = without_all_of ns rows in
      let seen = all_of_out rows ns rows aside (seen_same rows) in
      seen_on rows less new seen (crash ok less (first (clean ok) rows was has) (has_still rows ∙ has)
      (links_aside ns ls less (aside_seen ns rows less seen aside) are))
