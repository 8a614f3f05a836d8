-- What accepted merges and undoings leave.
use Rattle.std.proofs.Common.{◌≡◌, ℕ, ◌+◌, true, false, refl, sym, ap, ◌∙◌, ◌≤◌, subst, arith}
use Rattle.std.specs.Prelude.{Option, Some, None, not, ◌==◌, nat_le, Result, Ok, Err, if◌then◌else◌}
use Rattle.std.proofs.lemmas.Bool.Decides.{nat_tests}
use Rattle.std.specs.List.{filter}
use Rattle.std.specs.FinMap.{get, entries}
use Rattle.std.proofs.lemmas.Bool.{not-true, eqb-false}
use Rattle.record_text.specs.declared.refusal.RefusalKind.{RefusalKind}
use Rattle.record_text.specs.declared.refusal.RefusalKind.TheVariants.{
  SamePerson,
  MergeWithinFamily,
  ChangedSince,
  AlreadyUndone,
  Full,
}
use Rattle.record_kinds.specs.Model as model
use Rattle.record_kinds.specs.declared.record.Record.{Record}
use Rattle.record_kinds.specs.declared.record.Record.TheVariants as kind
use Rattle.receipts.specs.declared.answer.Answer.{Answer}
use Rattle.archive_state.specs.Content.{Content, Records}
use Rattle.archive_state.specs.Slips.{Slip}
use Rattle.archive_state.specs.declared.slip.Change.{Change}
use Rattle.archive_state.specs.Merging.{merged}
use Rattle.archive_state.specs.Sound.{IsSound}
use Rattle.commands.specs.Rows.{and_then}
use Rattle.command_checks.specs.Checks.{need, person_at, next_free}
use Rattle.merging.specs.Steps.{slip_in, slip_at, RowStep, merge_step, undo_step}
use Rattle.merging.specs.Comparing.{is_now}
use Rattle.merging.specs.Merges.{
  is_changed,
  change_at,
  merge_changes,
  is_clash,
  merged_records,
  slip_of,
  with_merge,
  with_undo,
}
use Rattle.record_shapes.proofs.Each.{each_mapped}
use Rattle.archive_state.proofs.Putting.{put_here}
use Rattle.merging.proofs.Changing.{undone_merge, made_there, each_found}
use Rattle.merging.proofs.Merge.{entries_there, no_clashes, made_merged, merge_sound}
use Rattle.merging.proofs.Undo.{undo_sound}
use Rattle.merging.proofs.MergeComparing.{IsNow, now_is, is_now_new}
use Rattle.command_checks.proofs.Found.{person_found, needed}
use Rattle.commands.proofs.Chains.{both_answered}

within : (n : ℕ) → nat_le n 4_294_967_295 ≡ true → n ≤ 4294967295
within n e = grind (arith, nat_tests)

pub a_slip : (o : Option Slip) (r : Option Record) (s : Slip) → slip_in o r ≡ Ok s → o ≡ Some s
a_slip (Some t) r s e = let same : t ≡ s = cc in ap Some same
a_slip None None s e = absurd cc
a_slip None (Some r) s e = absurd cc

-- a number is left
pub the_next : (c : Content) (n : ℕ) → next_free c ≡ Ok n → (c.next ≡ n) × (c.next ≤ 4294967295)
the_next c n e = elim (nat_le c.next 4_294_967_295) as (λ b. nat_le c.next 4_294_967_295 ≡ b
    → (if b then Ok c.next else Err Full) ≡ Ok n → (c.next ≡ n) × (c.next ≤ 4294967295)) [
      | true ↦ λ less q. (cc, within c.next less)
      | false ↦ λ less q. absurd cc
    ] refl e

-- what an accepted merge was of
pub record Merged (c : Content) (keep gone : ℕ) (after : Content) (a : Answer) : Type 0 where
  pub k : model.Person
  pub g : model.Person
  pub at_k : get c.records keep ≡ Some (kind.Person k)
  pub at_g : get c.records gone ≡ Some (kind.Person g)
  pub apart : keep ≡ gone → ⊥
  pub free : is_clash keep gone c.records ≡ false
  pub left : with_merge keep gone c (c.next + 1) ≡ after
  pub first : c.next ≡ a.first
  pub room : c.next ≤ 4294967295
  pub count : a.count ≡ 1

pub merged_by : (c after : Content) (keep gone : ℕ) (a : Answer) → merge_step c keep gone ≡ Ok (after, a)
    → Merged c keep gone after a
merged_by c after keep gone a e =
    let rest5 : ℕ → RowStep = λ n. Ok (with_merge keep gone c (n + 1), record { first = n; count = 1 }) in
    let rest4 : Unit {0} → RowStep = λ _. and_then (next_free c) rest5 in
    let rest3 : Unit {0} → RowStep = λ _. and_then
    (need (not (is_clash keep gone c.records)) MergeWithinFamily) rest4 in
    let rest2 : model.Person → RowStep = λ _. and_then (need (not (keep == gone)) SamePerson) rest3 in
    let rest1 : model.Person → RowStep = λ _. and_then (person_at c gone) rest2 in
    let h1 = both_answered (person_at c keep) rest1 (after, a) e in
    let h2 = both_answered (person_at c gone) rest2 (after, a) h1.2 in
    let h3 = both_answered (need (not (keep == gone)) SamePerson) rest3 (after, a) h2.2 in
    let h4 = both_answered (need (not (is_clash keep gone c.records)) MergeWithinFamily) rest4 (after, a) h3.2 in
    let h5 = both_answered (next_free c) rest5 (after, a) h4.2 in
    let room = the_next c h5.0 h5.1 in
    let next : c.next ≡ h5.0 = room.0 in
    let both : ◌≡◌ {A = Content × Answer} (with_merge keep gone c (h5.0 + 1), record { first = h5.0; count = 1 })
    (after, a) = let q = h5.2 in cc in
    record {
      k = h1.0;
      g = h2.0;
      at_k = person_found (get c.records keep) h1.0 h1.1;
      at_g = person_found (get c.records gone) h2.0 h2.1;
      apart = eqb-false keep gone (not-true (keep == gone) (needed (not (keep == gone)) SamePerson h3.0 h3.1));
      free = not-true (is_clash keep gone c.records)
          (needed (not (is_clash keep gone c.records)) MergeWithinFamily h4.0 h4.1);
      left = ap (λ n. with_merge keep gone c (n + 1)) next ∙ ap (λ (x : Content × Answer). x.0) both;
      first = next ∙ ap (λ (x : Content × Answer). x.1.first) both;
      room = room.1;
      count = sym (ap (λ (x : Content × Answer). x.1.count) both);
    }

pub merged_sound : (c after : Content) (keep gone : ℕ) (a : Answer) → IsSound c → merge_step c keep gone
    ≡ Ok (after, a) → IsSound after
merged_sound c after keep gone a sound e =
    let h : Merged c keep gone after a = merged_by c after keep gone a e in
    subst IsSound h.left (merge_sound c keep gone h.k h.g sound h.at_k h.at_g h.apart
    (no_clashes keep gone c.records h.free) h.room)

pub merged_all : (c after : Content) (keep gone : ℕ) (a : Answer) (n : ℕ) → IsSound c
    → merge_step c keep gone ≡ Ok (after, a) → get after.records n ≡ merged keep gone (get c.records) n
merged_all c after keep gone a n sound e =
    let h : Merged c keep gone after a = merged_by c after keep gone a e in
    ap (λ (x : Content). get x.records n) (sym h.left) ∙ made_merged c keep gone h.k h.g sound h.at_k h.at_g h.apart
    (no_clashes keep gone c.records h.free) n

-- what an accepted undoing was of
pub record Undone (c : Content) (n : ℕ) (after : Content) : Type 0 where
  pub slip : Slip
  pub there : get c.slips n ≡ Some slip
  pub open_yet : slip.is_undone ≡ false
  pub now : IsNow c.records slip.changes
  pub left : with_undo n slip c ≡ after

pub undone_by : (c after : Content) (n : ℕ) (a : Answer) → undo_step c n ≡ Ok (after, a) → Undone c n after
undone_by c after n a e =
    let rest3 : Slip → Unit {0} → RowStep = λ s _. Ok (with_undo n s c, record { first = 0; count = 0 }) in
    let rest2 : Slip → Unit {0} → RowStep = λ s _. and_then
    (need (is_now c.records s.changes) ChangedSince) (rest3 s) in
    let rest1 : Slip → RowStep = λ s. and_then (need (not s.is_undone) AlreadyUndone) (rest2 s) in
    let h1 = both_answered (slip_at c n) rest1 (after, a) e in
    let h2 = both_answered (need (not h1.0.is_undone) AlreadyUndone) (rest2 h1.0) (after, a) h1.2 in
    let h3 = both_answered (need (is_now c.records h1.0.changes) ChangedSince) (rest3 h1.0) (after, a) h2.2 in
    let both : ◌≡◌ {A = Content × Answer} (with_undo n h1.0 c, record { first = 0; count = 0 }) (after, a) =
    let q = h3.2 in cc in
    record {
      slip = h1.0;
      there = a_slip (get c.slips n) (get c.records n) h1.0 h1.1;
      open_yet = not-true h1.0.is_undone (needed (not h1.0.is_undone) AlreadyUndone h2.0 h2.1);
      now = now_is c.records h1.0.changes (needed (is_now c.records h1.0.changes) ChangedSince h3.0 h3.1);
      left = ap (λ (x : Content × Answer). x.0) both;
    }

-- its answer is 0 and 0
pub undone_answer : (c after : Content) (n : ℕ) (a : Answer) → undo_step c n ≡ Ok (after, a)
    → (a.first ≡ 0) × (a.count ≡ 0)
undone_answer c after n a e =
    let rest3 : Slip → Unit {0} → RowStep = λ s _. Ok (with_undo n s c, record { first = 0; count = 0 }) in
    let rest2 : Slip → Unit {0} → RowStep = λ s _. and_then
    (need (is_now c.records s.changes) ChangedSince) (rest3 s) in
    let rest1 : Slip → RowStep = λ s. and_then (need (not s.is_undone) AlreadyUndone) (rest2 s) in
    let h1 = both_answered (slip_at c n) rest1 (after, a) e in
    let h2 = both_answered (need (not h1.0.is_undone) AlreadyUndone) (rest2 h1.0) (after, a) h1.2 in
    let h3 = both_answered (need (is_now c.records h1.0.changes) ChangedSince) (rest3 h1.0) (after, a) h2.2 in
    let both : ◌≡◌ {A = Content × Answer} (with_undo n h1.0 c, record { first = 0; count = 0 }) (after, a) =
    let q = h3.2 in cc in
    (sym (ap (λ (x : Content × Answer). x.1.first) both), sym (ap (λ (x : Content × Answer). x.1.count) both))

pub undone_sound : (c after : Content) (n : ℕ) (a : Answer) → IsSound c → undo_step c n ≡ Ok (after, a) → IsSound after
undone_sound c after n a sound e = let h : Undone c n after = undone_by c after n a e in
    subst IsSound h.left (undo_sound c n h.slip sound h.there h.now)

-- ---- a merge that is undone at once
now_merged : (keep gone : ℕ) (m : Records) → IsNow (merged_records keep gone m) (merge_changes keep gone m)
now_merged keep gone m =
    let Q : Change → Type 0 = λ x. get (merged_records keep gone m) x.number ≡ x.new in
    each_mapped Q (change_at keep gone m) (filter (λ e. is_changed keep gone m e.0 e.1) (entries m))
    (each_found keep gone m (λ e. Q (change_at keep gone m e)) (λ n r at t. made_there keep gone m n r at t)
    (entries m) (entries_there m))

-- the undoing is accepted, and leaves the records of before
pub undo_merged : (c after : Content) (keep gone : ℕ) (a : Answer) → merge_step c keep gone ≡ Ok (after, a)
    → (back : Content) × (undo_step after a.first ≡ Ok (back, record { first = 0; count = 0 }))
    × (back.records ≡ c.records)
undo_merged c after keep gone a e =
    let h : Merged c keep gone after a = merged_by c after keep gone a e in
    let m : Records = c.records in
    let s : Slip = slip_of keep gone m in
    let x : Content = with_merge keep gone c (c.next + 1) in
    let at : slip_at x c.next ≡ Ok s = ap (λ o. slip_in o (get x.records c.next)) (put_here c.slips c.next s) in
    let now : is_now x.records s.changes ≡ true = is_now_new (merged_records keep gone m) (merge_changes keep gone m)
    (now_merged keep gone m) in
    let answer : Answer = record { first = 0; count = 0 } in
    let step : undo_step x c.next ≡ Ok (with_undo c.next s x, answer) =
    ap (λ (y : Result Slip RefusalKind). and_then y
    (λ s. and_then (need (not s.is_undone) AlreadyUndone)
    (λ _. and_then (need (is_now x.records s.changes) ChangedSince) (λ _. Ok (with_undo c.next s x, answer))))) at
    ∙ ap (λ b. and_then (need b ChangedSince) (λ _. Ok (with_undo c.next s x, answer))) now in (
      with_undo c.next s x,
      ap (λ y. undo_step y a.first) (sym h.left) ∙ ap (undo_step x) (sym h.first) ∙ step,
      undone_merge keep gone m (now_merged keep gone m),
    )
