-- Rows that were served so far, each answered as is expected, and how that ends.
use Rattle.std.proofs.Common.{
  ◌≡◌,
  ◌∙◌,
  ◌+◌,
  ◌++◌,
  ◌∷◌,
  ℕ,
  Bool,
  true,
  List,
  [],
  Option,
  Ok,
  Err,
  ap,
  arith,
  length,
  refl,
  subst,
  sym,
}
use Rattle.std.specs.Prelude.{bytes_eq, if◌then◌else◌}
use Rattle.std.proofs.lemmas.List.{append-nil}
use Rattle.csv.specs.declared.parser.State.{State}
use Rattle.sqlite.specs.Held.{state}
use Rattle.sqlite_trees.specs.declared.store.Store.{Ghosts}
use Rattle.archive_core.specs.Machine.{Done}
use Rattle.record_text.specs.declared.refusal.Refusal.{Refusal}
use Rattle.record_text.specs.declared.refusal.RefusalKind.{RefusalKind}
use Rattle.request_csv.specs.Input.{AreFirstRows, AreRows, Row}
use Rattle.expected_answers.specs.Expected.{is_next, rest}
use Rattle.store.specs.Calls.{Performs}
use Rattle.store.specs.Shut.{is_shut}
use Rattle.store.specs.declared.archive.Archive.{Archive}
use Rattle.store.proofs.Histories.{performs_then}
use Rattle.archive_input.specs.Answers.{Served, answer_text}
use Rattle.archive_input.specs.Applying.{calls_of}
use Rattle.archive_input.specs.RowByRow.{Moment, ServesAll}
use Rattle.archive_input.specs.Stopping.{IsRefusedLast, row_place}
use Rattle.archive_input.proofs.InTurn.{InTurn, none_more}
use Rattle.archive_input.proofs.OnTheWay.{AppliedWith, EndedWith, OnTheWay, OnTheWayWith}
use Rattle.archive_input.proofs.Stopped.{AcceptedSoFar}
use Rattle.expected_rows.specs.Expecting.{
  AppliedAsExpected,
  AreAnswered,
  AreExpected,
  DoesExpected,
  EndedAsExpected,
  IsDoneExpected,
  IsUnexpected,
  Left,
  OnlyLooked,
  ServesExpected,
  is_expected,
  left_after,
  token_in,
  without_next,
}
use Rattle.expected_rows.specs.Meeting.{AreLeft}
use Rattle.expected_rows.specs.declared.expecting.Ending.TheVariants as ending

-- ---- what is expected of rows one after the other
pub expected_more : (left : Left) (served : List Served) (s : Served) → AreExpected left served
    → is_expected (left_after left served) s ≡ true → AreExpected left (served ++ s ∷ [])
expected_more left [] s all is = (is, tt)
expected_more left (x ∷ served) s all is =
    (all.0, expected_more (without_next left (token_in x)) served s all.1 is)

left_more : (left : Left) (served : List Served) (s : Served)
    → left_after left (served ++ s ∷ []) ≡ without_next (left_after left served) (token_in s)
left_more left [] s = refl
left_more left (x ∷ served) s = left_more (without_next left (token_in x)) served s

pub expected_same : (now left : Left) (s : Served) → AreLeft now left → is_expected now s ≡ is_expected left s
expected_same now left s same = ap (λ (texts : List (List ℕ)). is_next texts (answer_text s)) (same (token_in s))

pub left_then : (now next left : Left) (served : List Served) (s : Served) → AreLeft now (left_after left served)
    → AreLeft next (without_next now (token_in s)) → AreLeft next (left_after left (served ++ s ∷ []))
left_then now next left served s same less = λ other.
    less other
    ∙ ap (λ (texts : List (List ℕ)). if bytes_eq (token_in s) other then rest texts else texts) (same other)
    ∙ ap (λ (l : Left). l other) (sym (left_more left served s))

done_same : (now left : Left) (s : Served) → AreLeft now left → IsDoneExpected now s → IsDoneExpected left s
done_same now left (Ok (r, Ok answer)) same is = sym (expected_same now left (Ok (r, Ok answer)) same) ∙ is
done_same now left (Ok (r, Err e)) same is = tt
done_same now left (Err bad) same is = tt

-- ---- rows so far
module _ {S W F : Type 0} (g : Ghosts S) (written : W → Option (List ℕ)) (told : F → Option (List ℕ)) where
  -- this many rows were served, each in its turn and as is expected, and this is expected now
  pub record SoFar (stops : Bool) (count : ℕ) (left now : Left) (a b : Moment g W F) (rows : List Row)
      (served : List Served) : Type 0 where
    pub turn : InTurn g written told count a b rows served
    pub accepted : AcceptedSoFar stops served
    pub expected : AreExpected left served
    pub remains : AreLeft now (left_after left served)

  -- rows were served so, from one moment to another
  pub record AllSo (stops : Bool) (left : Left) (a b : Moment g W F) (rows : List Row) (served : List Served) : Type 0
    where
      pub all : ServesAll g written told 1 rows served a b
      pub answered : AreAnswered stops left served

  pub record UpToRefused (stops : Bool) (left : Left) (e : Refusal) (a b : Moment g W F) (rows : List Row)
      (served : List Served) : Type 0 where
    pub all : ServesAll g written told 1 rows served a b
    pub expected : AreExpected left served
    pub last : IsRefusedLast served e

  -- the rows before one that would be answered otherwise
  pub record UpToUnexpected (known : Option (List ℕ)) (stops : Bool) (left : Left) (number : ℕ) (row : Row)
      (a m b : Moment g W F) (rows : List Row) (served : List Served) : Type 0 where
    pub all : ServesAll g written told 1 rows served a m
    pub answered : AreAnswered stops left served
    pub first : AreFirstRows known (rows ++ row ∷ [])
    pub named : number ≡ row_place (length served + 1)
    pub is : IsUnexpected g (left_after left served) row m.archive b.archive

  module _ (stops : Bool) (count : ℕ) (left now : Left) (a m b : Moment g W F) (rows : List Row) (served : List Served)
      (so : SoFar stops count left now a m rows served) where
    -- the call ended before the next row
    pub up_to : told b.faults ≡ told m.faults → ServesExpected g written told stops left rows served a b
    up_to same = (
      served,
      [],
      none_more served,
      omega arith,
      rows,
      [],
      none_more rows,
      m,
      so.turn.all,
      same,
      (so.expected, so.accepted),
      tt,
    )

    -- it ended in that row
    pub up_to_last : (row : Row) (s : Served) → told b.faults ≡ told m.faults
        → DoesExpected g now s m.archive b.archive
        → ServesExpected g written told stops left (rows ++ row ∷ []) (served ++ s ∷ []) a b
    up_to_last row s same does = (
      served,
      s ∷ [],
      refl,
      omega arith,
      rows,
      row ∷ [],
      refl,
      m,
      so.turn.all,
      same,
      (so.expected, so.accepted),
      (
        λ clean was society c kept settled keeps.
            done_same now (left_after left served) s so.remains (does clean was society c kept settled keeps),
        tt,
      ),
    )

    pub unexpected : (row : Row) → IsUnexpected g now row m.archive b.archive
        → IsUnexpected g (left_after left served) row m.archive b.archive
    unexpected row is = record {
      served = is.served;
      asked = is.asked;
      asked_in = is.asked_in;
      would_be = is.would_be;
      otherwise = sym (expected_same now (left_after left served) is.served so.remains) ∙ is.otherwise;
      known = is.known;
      looked = is.looked;
    }

  module _ (known : Option (List ℕ)) (stops : Bool) (left : Left) (a b : Moment g W F) where
    pub all_expected : AppliedWith AreRows g known (written a.output) (written b.output) a.archive b.archive
        (AllSo stops left a b) → AppliedAsExpected g written told stops left ending.All known a b
    all_expected all = ((all.0, all.1.all), all.1.answered)

    pub refused_expected : (e : Refusal) → stops ≡ true
        → AppliedWith AreFirstRows g known (written a.output) (written b.output) a.archive b.archive
        (UpToRefused stops left e a b) → AppliedAsExpected g written told stops left (ending.Refused e) known a b
    refused_expected e is part = ((part.0, part.1.all), is, part.1.expected, part.1.last)

    pub unexpected_expected : (number : ℕ) (row : Row) (m : Moment g W F)
        → AppliedWith AreFirstRows g known (written a.output) (written m.output) a.archive m.archive
        (UpToUnexpected known stops left number row a m b) → (written b.output ≡ written m.output)
        → (told b.faults ≡ told m.faults)
        → AppliedAsExpected g written told stops left (ending.Unexpected number) known a b
    unexpected_expected number row m part same untold = (
      m,
      (part.0, part.1.all),
      part.1.answered,
      row,
      part.1.first,
      part.1.named,
      part.1.is,
      same,
      untold,
    )

    pub ended_expected : (kind : RefusalKind)
        → EndedWith g kind known (written a.output) (written b.output) a.archive b.archive
        (λ rows served. ServesExpected g written told stops left rows served a b)
        → EndedAsExpected g written told stops left kind known a b
    ended_expected kind part = part

-- ---- rows so far, and looks after them
pub looked_way : {S : Type 0} (g : Ghosts S) (known left : Option (List ℕ)) (at : State)
    (before after : Option (List ℕ)) (old now next : Archive S g) → OnlyLooked g now next
    → (way : OnTheWay g known left at before after old now) → (P : List Row → List Served → Type 0)
    → P way.rows way.served → OnTheWayWith g known left at before after old next P
looked_way g known left at before after old now next looked way P p = (
  record {
    rows = way.rows;
    served = way.served;
    took = way.took;
    each = way.each;
    numbers = λ clean was. way.numbers (looked.performed clean (way.kept was)).clean was;
    certain = way.certain;
    kept = λ was. looked.free (way.kept was);
    performed = λ clean was.
        let p = looked.performed clean (way.kept was) in
        subst (λ (calls : List Done). Performs (state g old.conn) calls (state g next.conn))
        (append-nil (calls_of way.served))
        (performs_then (state g old.conn) (state g now.conn) (state g next.conn) (calls_of way.served) []
        (way.performed p.clean was) way.certain p);
    refused = λ shut.
        let all = way.refused shut in (
          all.0,
          looked.shut (subst (λ (x : Archive _ g). is_shut x ≡ true) (sym all.1) shut) ∙ all.1,
        );
    written = way.written;
  },
  p,
)
