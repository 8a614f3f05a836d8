-- What looks at an archive have found of the answer of a request.
use Rattle.std.proofs.Common.{
  ◌≡◌,
  ◌∙◌,
  ◌⊎◌,
  ◌<◌,
  ◌-◌,
  ◌^◌,
  ℕ,
  Bool,
  true,
  false,
  Ok,
  Err,
  [],
  ◌∷◌,
  ap,
  arith,
  inl,
  inr,
  refl,
  subst,
  sym,
  true≢false,
}
use Rattle.std.specs.Prelude.{Result, cond}
use Rattle.std.proofs.lemmas.Result.{IfErr-weaker}
use Rattle.sqlite.specs.Held.{state}
use Rattle.sqlite.specs.State.{HasCleanDisk, State}
use Rattle.sqlite_trees.specs.declared.store.Store.{Ghosts}
use Rattle.archive_core.specs.Applied.{Decides}
use Rattle.archive_core.specs.Machine.{outcome}
use Rattle.archive_core.specs.declared.request.Request.{Request}
use Rattle.archive_state.specs.Applied.{applied}
use Rattle.archive_state.specs.Changes.{Changes}
use Rattle.archive_state.specs.Content.{Content}
use Rattle.archive_state.specs.Looks.{CountsStops, is_failure, is_stop}
use Rattle.commands.specs.Rows.{is_want}
use Rattle.receipts.specs.declared.answer.Answer.{Answer}
use Rattle.record_text.specs.declared.refusal.Refusal.{Refusal}
use Rattle.record_text.specs.declared.refusal.RefusalKind.{RefusalKind}
use Rattle.record_text.specs.declared.refusal.RefusalKind.TheVariants.{BadStored, OutOfMemory, Storage}
use Rattle.store.proofs.Viewed.{kept_of, seen_of}
use Rattle.store.specs.Histories.{Outcome, must_reopen}
use Rattle.store.specs.Looking.{StaysReadable}
use Rattle.store.specs.Shut.{is_shut}
use Rattle.store.specs.Standing.{must_wait}
use Rattle.store.specs.Viewing.{Kept, OnReadable, Shows}
use Rattle.store.specs.declared.archive.Archive.{Archive}
use Rattle.store_tables.specs.Calls.{LeavesOnly, Settled}
use Rattle.store_tables.specs.Rows.{Rows}
use Rattle.archive_input.specs.Applying.{RefusesAll, Steps}
use Rattle.archive_input.proofs.Stepped.{free_of, performs_failing, shut_lost}
use Rattle.expected_rows.specs.Expecting.{DoesExpected, Left, OnlyLooked, WouldBe, is_expected, is_wanting}
use Rattle.expected_rows.specs.Meeting.{DecidesSurely, EndsForeseeing, Foresees, Foretells, LooksDeciding}
use Rattle.expected_rows.proofs.Looked.{looks_only}

-- ---- what was decided
-- as the clauses of a view have it
abbrev Rose : ℕ → ℕ → Type 0
Rose before after = (before < after) ⊎ (after ≡ 2 ^ 64 - 1)

not_failed : (kind : RefusalKind) → (is_failure kind ≡ true → ⊥) → is_failure kind ≡ false
not_failed kind none = elim (is_failure kind) as (λ (b : Bool). (b ≡ true → ⊥) → b ≡ false) [
  | true ↦ λ no. absurd (no refl)
  | false ↦ λ _. refl
] none

not_risen : (before after : ℕ) → before ≡ 0 → after ≡ 0 → Rose before after → ⊥
not_risen before after first last (inl less) = absurd (omega (arith, less, first, last))
not_risen before after first last (inr most) = absurd (omega (arith, most, first, last))

-- where no look has failed nothing else was refused so
pub surely : (c : Content) (r : Request) (decided : Result Changes Refusal) (before after : ℕ) → before ≡ 0 → after ≡ 0
    → CountsStops before after decided → Decides c decided (outcome c r) → DecidesSurely c r decided
surely c r decided before after first last counts decides = (
  decides,
  IfErr-weaker decided _ _ (λ e counted. not_failed e.kind (λ failed.
      not_risen before after first last (counted.0 failed))) counts.1,
)

not_stop : (kind : RefusalKind) → is_want kind ≡ false → is_failure kind ≡ false → is_stop kind ≡ false
not_stop OutOfMemory want failure = absurd (true≢false want)
not_stop BadStored want failure = absurd (true≢false failure)
not_stop Storage want failure = absurd (true≢false failure)
not_stop _ want failure = refl

pub would_of : (c : Content) (r : Request) (decided : Result Changes Refusal) (o : Outcome) → Foretells decided o
    → DecidesSurely c r decided → WouldBe c (Ok (r, o))
would_of c r (Ok changes) o foretold sure =
    subst (λ (x : Outcome). WouldBe c (Ok (r, x))) (sym foretold) (applied c changes, sure.0)
would_of c r (Err e) o foretold sure =
    subst (λ (x : Outcome). WouldBe c (Ok (r, x))) (sym foretold.0) (sure.0 (not_stop e.kind foretold.1 sure.1))

known_of : (r : Request) (decided : Result Changes Refusal) (o : Outcome) → Foretells decided o
    → is_wanting (Ok (r, o)) ≡ false
known_of r (Ok changes) o foretold = subst (λ (x : Outcome). is_wanting (Ok (r, x)) ≡ false) (sym foretold) refl
known_of r (Err e) o foretold = subst (λ (x : Outcome). is_wanting (Ok (r, x)) ≡ false) (sym foretold.0) foretold.1

-- ---- looks at an archive that decide a request
pub viewed_deciding : (old new : State) (lost lost_now : Bool) (failures failures_now : ℕ) (r : Request)
    (decided : Result Changes Refusal) → failures ≡ 0 → ((rows : Rows) → Settled old rows → LeavesOnly old rows)
    → (HasCleanDisk new → HasCleanDisk old × ((kept : Kept) → Shows old lost failures kept
    → Shows new lost_now failures_now kept × Decides kept.content decided (outcome kept.content r)))
    → CountsStops failures failures_now decided → HasCleanDisk new → StaysReadable old lost_now new
    × OnReadable old (λ rows c. lost_now ≡ false → DecidesSurely c r decided)
viewed_deciding old new lost lost_now failures failures_now r decided none leaves viewed counts clean =
    let at = viewed clean in (
      record {
        same = λ sure rows c was seen. (at.1 (kept_of rows c seen)
            (record { crash = leaves rows was; settled = λ _. was; none = λ _. none })).0.settled sure;
        crash = λ rows c was seen. (at.1 (kept_of rows c seen)
            (record { crash = leaves rows was; settled = λ _. was; none = λ _. none })).0.crash;
        clean = at.0;
      },
      λ rows c was seen sure.
          let shown = at.1 (kept_of rows c seen)
          (record { crash = leaves rows was; settled = λ _. was; none = λ _. none }) in
          surely c r decided failures failures_now none (shown.0.none sure) counts shown.1,
    )

-- ---- a request that was performed after it
abbrev answer_in : Answer → Result (Content × Answer) Refusal → Answer
answer_in other (Ok done) = done.1
answer_in other (Err e) = other

answers_same : (after other : Content) (a b : Answer) (right : Result (Content × Answer) Refusal)
    → right ≡ Ok (after, a) → right ≡ Ok (other, b) → a ≡ b
answers_same after other a b right one two = ap (answer_in a) (sym one ∙ two)

not_both : {A E : Type 0} (right : Result A E) (a : A) (e : E) → right ≡ Ok a → right ≡ Err e → ⊥
not_both right a e one two = cc

-- the answer of one that is done is the one that was foretold
done_as : (left : Left) (c after : Content) (r : Request) (foretold : Outcome) (answer : Answer)
    → WouldBe c (Ok (r, foretold)) → is_expected left (Ok (r, foretold)) ≡ true → outcome c r ≡ Ok (after, answer)
    → is_expected left (Ok (r, Ok answer)) ≡ true
done_as left c after r (Ok first) answer would expected did =
    subst (λ (a : Answer). is_expected left (Ok (r, Ok a)) ≡ true)
    (answers_same would.0 after first answer (outcome c r) would.1 did) expected
done_as left c after r (Err e) answer would expected did =
    absurd (not_both (outcome c r) (after, answer) e did would)

module _ {S : Type 0} (g : Ghosts S) where
  pub does_foretold : (left : Left) (r : Request) (foretold o : Outcome) (old mid new : Archive S g)
      → Foresees g r foretold old mid → is_expected left (Ok (r, foretold)) ≡ true → Steps g (Ok (r, o)) mid new
      → DoesExpected g left (Ok (r, o)) old new
  does_foretold left r foretold (Err e) old mid new seen expected steps = λ clean was society c rows settled keeps. tt
  does_foretold left r foretold (Ok answer) old mid new seen expected steps = λ clean was society c rows settled keeps.
      let did = steps.0 clean (seen.looked.free was) in
      let still = (seen.looked.performed did.clean was).done refl society c (rows, settled, keeps) in
      let runs = (did.done refl society still.0 still.2).1 in
      done_as left c runs.0 r foretold answer (seen.would_be did.clean was society c rows settled keeps) expected
      (subst (λ (k : Content). outcome k r ≡ Ok (runs.0, answer)) still.1 runs.1)

  -- an archive that takes no requests
  shut_known : (r : Request) (lost : Bool) → is_wanting (Ok (r, cond lost must_reopen must_wait)) ≡ false
  shut_known r true = refl
  shut_known r false = refl

  pub foreseen_shut : (r : Request) (o : Outcome) (old new : Archive S g) → is_shut old ≡ true
      → RefusesAll g old ((r, o) ∷ []) new → Foresees g r o old new
  foreseen_shut r o old new shut refused = record {
    would_be = λ clean was. absurd (true≢false (sym shut ∙ was));
    known = subst (λ (x : Outcome). is_wanting (Ok (r, x)) ≡ false) (sym (refused shut).0.0) (shut_known r old.is_lost);
    looked = record {
      free = λ was. absurd (true≢false (sym shut ∙ was));
      performed = λ clean was. absurd (true≢false (sym shut ∙ was));
      shut = λ is. (refused is).1;
    };
  }

  -- looks that decided it
  module _ (r : Request) (decided : Result Changes Refusal) (old new : Archive S g) (was : is_shut old ≡ false)
      (looked : LooksDeciding g r old decided new) (aside : new.import ≡ old.import) where
    looks : HasCleanDisk (state g new.conn) → StaysReadable (state g old.conn) new.is_lost (state g new.conn)
    looks clean = (looked clean).0

    only_looked : new.is_lost ≡ false → OnlyLooked g old new
    only_looked sure = looks_only g old new was (free_of g old new was sure aside) sure looks

    pub foreseen : new.is_lost ≡ false → (o : Outcome) → Foretells decided o → Foresees g r o old new
    foreseen sure o foretold = record {
      would_be = λ clean _ society c rows settled keeps.
          would_of c r decided o foretold ((looked clean).1 rows c settled (seen_of keeps) sure);
      known = known_of r decided o foretold;
      looked = only_looked sure;
    }

    pub wanted : new.is_lost ≡ false → (kind : RefusalKind) → kind ≡ OutOfMemory → EndsForeseeing g r old new kind
    wanted sure kind is = inr (is, only_looked sure)

    pub lost : new.is_lost ≡ true → EndsForeseeing g r old new Storage
    lost is = inl (
      refl,
      (
        λ clean _. performs_failing (state g old.conn) (state g new.conn) new.is_lost (looks clean) r,
        λ _. shut_lost g new is,
        λ shut. absurd (true≢false (sym shut ∙ was)),
      ),
    )
