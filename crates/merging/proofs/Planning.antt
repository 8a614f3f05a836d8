-- What the code answers for a merge and for an undoing is what the steps say, and no more than it has to be.
use Rattle.std.proofs.Common.{◌≡◌, ℕ, ◌+◌, List, [], ◌∷◌, Bool, true, false, sym, ap, ◌∙◌, subst}
use Rattle.std.specs.Prelude.{Some, None, not, ◌==◌, Result, Ok, Err, IfOk, if◌then◌else◌}
use Rattle.std.specs.List.{flat_map}
use Rattle.std.specs.FinMap.{get}
use Rattle.std.proofs.lemmas.Bool.{not-true}
use Rattle.record_text.specs.declared.refusal.RefusalKind.{RefusalKind}
use Rattle.record_text.specs.declared.refusal.RefusalKind.TheVariants.{
  SamePerson,
  MergeWithinFamily,
  ChangedSince,
  AlreadyUndone,
}
use Rattle.record_kinds.specs.Model as model
use Rattle.record_kinds.specs.declared.record.Record.{Record}
use Rattle.record_kinds.specs.declared.record.Record.TheVariants as kind
use Rattle.receipts.specs.declared.answer.Answer.{Answer}
use Rattle.archive_state.specs.Applied.{applied}
use Rattle.archive_state.specs.Changes.{Changes}
use Rattle.archive_state.specs.Content.{Content}
use Rattle.archive_state.specs.Referrers.{referrers}
use Rattle.archive_state.specs.Slips.{Slip}
use Rattle.archive_state.specs.declared.changes.SlipChange.TheVariants as change
use Rattle.archive_state.specs.declared.slip.Change.{Change}
use Rattle.archive_state.specs.Looks.{Agrees, Looked, is_stop}
use Rattle.commands.specs.Rows.{and_then}
use Rattle.command_checks.specs.Applied.{Plans}
use Rattle.command_checks.specs.Checks.{need, next_free, person_at}
use Rattle.command_checks.specs.Exact.{IsExact}
use Rattle.merging.specs.Comparing.{is_now}
use Rattle.merging.specs.Looks.{changes_of, made_changes, may_undo}
use Rattle.merging.specs.Merges.{adds_nothing, is_clash, put_new, put_old, with_merge, with_number}
use Rattle.merging.specs.Steps.{RowStep, merge_step, slip_at}
use Rattle.merging.proofs.MergeComparing.{now_is}
use Rattle.merging.proofs.Deciding.{changes_found}
use Rattle.merging.proofs.Exactness.{merge_is_exact, undo_is_exact}
use Rattle.merging.proofs.Once.{number_other}
use Rattle.merging.proofs.Stepping.{a_slip, the_next}
use Rattle.command_checks.proofs.Found.{person_found, needed}
use Rattle.commands.proofs.Chains.{both_answered}

-- the changes of a merge, put together from what was found
abbrev merge_of : ℕ → ℕ → ℕ → List Change → Changes
merge_of keep gone n changes = record {
  puts = flat_map put_new changes;
  removals = gone ∷ [];
  next = n + 1;
  answer = record { first = n; count = 1 };
  kept = None;
  slip = Some (change.Made n (record { keep = keep; gone = gone; changes = changes; is_undone = false }));
}

pub changes_made : (keep gone n : ℕ) (c : Content) (k g : Record) (b : Bool) (numbers : List ℕ) (changes : List Change)
    (made : Changes)
    → get c.records keep ≡ Some k → get c.records gone ≡ Some g → b ≡ adds_nothing (Some g)
    → numbers ≡ with_number gone (if b then referrers c gone else with_number keep (referrers c gone))
    → changes ≡ changes_of keep gone c.records numbers
    → made ≡ record {
      puts = flat_map put_new changes;
      removals = gone ∷ [];
      next = n + 1;
      answer = record { first = n; count = 1 };
      kept = None;
      slip = Some (change.Made n (record { keep = keep; gone = gone; changes = changes; is_undone = false }));
    }
    → made ≡ made_changes keep gone c n
changes_made keep gone n c k g b numbers changes made at_k at_g adds named changed e =
    e ∙ ap (merge_of keep gone n)
    (changed ∙ ap (changes_of keep gone c.records)
    (named ∙ ap (λ x. with_number gone (if x then referrers c gone else with_number keep (referrers c gone)))
    (adds ∙ ap adds_nothing (sym at_g)))
    ∙ changes_found keep gone c k g at_k at_g)

-- ---- a merge
module _ (c : Content) (keep gone n : ℕ) (k g : model.Person) (at_k : person_at c keep ≡ Ok k)
    (at_g : person_at c gone ≡ Ok g) (apart : keep ≡ gone → ⊥)
    (free : need (not (is_clash keep gone c.records)) MergeWithinFamily ≡ Ok tt) (room : next_free c ≡ Ok n) (b : Bool)
    (adds : b ≡ adds_nothing (Some (kind.Person g))) where
  step_is : merge_step c keep gone ≡ Ok (with_merge keep gone c (n + 1), record { first = n; count = 1 })
  step_is =
      let rest5 : ℕ → RowStep = λ n. Ok (with_merge keep gone c (n + 1), record { first = n; count = 1 }) in
      let rest4 : Unit {0} → RowStep = λ _. and_then (next_free c) rest5 in
      let rest3 : Unit {0} → RowStep = λ _. and_then
      (need (not (is_clash keep gone c.records)) MergeWithinFamily) rest4 in
      let rest2 : model.Person → RowStep = λ _. and_then (need (not (keep == gone)) SamePerson) rest3 in
      let rest1 : model.Person → RowStep = λ _. and_then (person_at c gone) rest2 in
      ap (λ x. and_then x rest1) at_k ∙ ap (λ x. and_then x rest2) at_g
      ∙ ap (λ x. and_then (need (not x) SamePerson) rest3) (number_other keep gone apart)
      ∙ ap (λ x. and_then x rest4) free ∙ ap (λ x. and_then x rest5) room

  abbrev left_by : Changes → Content × Answer
  left_by x = (applied c x, x.answer)

  abbrev left_at : ℕ → Content × Answer
  left_at j = (with_merge keep gone c (j + 1), record { first = j; count = 1 })

  abbrev IsMade : Changes → Type 0
  IsMade made = (x y : Record) → get c.records keep ≡ Some x → get c.records gone ≡ Some y → b ≡ adds_nothing (Some y)
      → made ≡ made_changes keep gone c n

  made_is : (made : Changes) → IsMade made → made ≡ made_changes keep gone c n
  made_is made h = h (kind.Person k) (kind.Person g) (person_found (get c.records keep) k at_k)
      (person_found (get c.records gone) g at_g) adds

  next_is : c.next ≡ n
  next_is = (the_next c n room).0

  left_is : (made : Changes) → made ≡ made_changes keep gone c n → left_at n ≡ left_by made
  left_is made e = sym (ap left_by e ∙ ap (λ j. left_by (made_changes keep gone c j)) (sym next_is)
      ∙ ap left_at next_is)

  pub merge_planned : (r : Result Changes RefusalKind)
      → Looked r (λ made. (x y : Record) → get c.records keep ≡ Some x → get c.records gone ≡ Some y
      → b ≡ adds_nothing (Some y) → made ≡ made_changes keep gone c n) → Plans c r (merge_step c keep gone)
  merge_planned (Ok made) h = let e = made_is made h in
      (step_is ∙ ap Ok (left_is made e), ap (λ (x : Changes). x.kept) e)
  merge_planned (Err e) h = ((λ sure. let never : true ≡ false = sym h ∙ sure in absurd cc), tt)

  pub merge_exact : (r : Result Changes RefusalKind)
      → Looked r (λ made. (x y : Record) → get c.records keep ≡ Some x → get c.records gone ≡ Some y
      → b ≡ adds_nothing (Some y) → made ≡ made_changes keep gone c n) → IfOk r (IsExact c)
  merge_exact (Ok made) h =
      subst (IsExact c) (sym (made_is made h ∙ ap (made_changes keep gone c) (sym next_is)))
      (merge_is_exact c keep gone k g (person_found (get c.records keep) k at_k)
      (person_found (get c.records gone) g at_g) apart)
  merge_exact (Err e) h = tt

-- ---- an undoing
abbrev undone_by_changes : ℕ → ℕ → List Change → Changes
undone_by_changes n next changes = record {
  puts = flat_map put_old changes;
  removals = [];
  next = next;
  answer = record { first = 0; count = 0 };
  kept = None;
  slip = Some (change.Undone n);
}

agreed : {A : Type 0} (r right : Result A RefusalKind) (a : A) → r ≡ Ok a → Agrees is_stop r right → right ≡ Ok a
agreed r right a e h = subst (λ x. Agrees is_stop x right) e h

pub undo_exact : (c : Content) (n next : ℕ) (s kept : Slip) (check : Result (Unit {0}) RefusalKind) (changes : Changes)
    → slip_at c n ≡ Ok s → Agrees is_stop check (may_undo c.records s) → check ≡ Ok tt → kept ≡ s → next ≡ c.next
    → changes ≡ record {
      puts = flat_map put_old kept.changes;
      removals = [];
      next = next;
      answer = record { first = 0; count = 0 };
      kept = None;
      slip = Some (change.Undone n);
    }
    → IsExact c changes
undo_exact c n next s kept check changes found agrees is_ok is now e =
    let there : get c.slips n ≡ Some s = a_slip (get c.slips n) (get c.records n) s found in
    let may : may_undo c.records s ≡ Ok tt = agreed check (may_undo c.records s) tt is_ok agrees in
    let first = both_answered (need (not s.is_undone) AlreadyUndone)
    (λ _. need (is_now c.records s.changes) ChangedSince) tt may in
    undo_is_exact c n s changes there
    (not-true s.is_undone (needed (not s.is_undone) AlreadyUndone first.0 first.1))
    (now_is c.records s.changes (needed (is_now c.records s.changes) ChangedSince tt first.2))
    (e ∙ ap (undone_by_changes n next) (ap (λ (x : Slip). x.changes) is)
    ∙ ap (λ j. undone_by_changes n j s.changes) now)
