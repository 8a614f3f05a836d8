use Rattle.std.proofs.Common.{ℕ, ◌∷◌, subst}
use Rattle.std.specs.Prelude.{IsTrue}
use Rattle.archive_state.specs.Content.{Content, Records}
use Rattle.archive_state.specs.Entries.{IsEntryAt}
use Rattle.archive_state.proofs.Keyed.{entry_there, entry_is, entry_is_not}
use Rattle.archive_state.proofs.Lowest.{Ahead, ahead_of_all, ahead_first, ahead_past, ahead_found, ahead_none}
use Rattle.archive_state.proofs.state.State.entry_at.Goals as goal
use Rattle.list_laws.proofs.Booleans.{never}

pub records-init : goal.records-init
records-init c =
    let gives = c.into_iter-number-iterator.ensures.into_iter_gives in
    rw gives.0 (subst (λ (s : Content). Ahead s.records
    (λ n. IsEntryAt s.records c.args.source c.args.kind c.args.page.now c.args.item n)
    c.self.inside.records.entries) c.self.view_is
    (ahead_of_all c.self.inside.records.entries _ gives.5))

pub returns-then-is_entry_of : goal.returns-then-is_entry_of
returns-then-is_entry_of c =
    let m : Records = c.args.self.now.records in
    let P : ℕ → Type 0 = IsEntryAt m c.args.source c.args.kind c.args.page.now c.args.item in
    let here : Ahead m P ((c.in-Some.number.now, c.in-Some.record.now) ∷ c.next.new.self) = subst
    (Ahead m P) c.in-Some.ensures.steps c.records.invariant in
    ahead_found m P (c.in-Some.number.now, c.in-Some.record.now) c.next.new.self (entry_there m _ _ _ _) here
    (entry_is m _ _ _ _ c.in-Some.number.now c.in-Some.record.now (ahead_first m P _ _ here)
    (c.is_entry_of.ensures.0 c.if-is_entry_of.true))

pub records-preserved : goal.records-preserved
records-preserved c =
    let m : Records = c.args.self.now.records in
    let P : ℕ → Type 0 = IsEntryAt m c.args.source c.args.kind c.args.page.now c.args.item in
    let here : Ahead m P ((c.in-Some.number.now, c.in-Some.record.now) ∷ c.next.new.self) = subst
    (Ahead m P) c.in-Some.ensures.steps c.records.invariant in
    ahead_past m P (c.in-Some.number.now, c.in-Some.record.now) c.next.new.self here
    (entry_is_not m _ _ _ _ c.in-Some.number.now c.in-Some.record.now (ahead_first m P _ _ here)
    (λ e. never (subst IsTrue c.if-is_entry_of.false (c.is_entry_of.ensures.1 e))))

pub returns : goal.returns
returns c =
    let m : Records = c.args.self.now.records in
    let P : ℕ → Type 0 = IsEntryAt m c.args.source c.args.kind c.args.page.now c.args.item in
    ahead_none m P (entry_there m _ _ _ _) (subst (Ahead m P) c.in-None.ensures.steps.0 c.records.invariant)
