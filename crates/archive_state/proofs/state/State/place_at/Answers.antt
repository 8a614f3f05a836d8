use Rattle.std.proofs.Common.{ℕ, sym, subst, ◌∙◌}
use Rattle.std.specs.Prelude.{IsTrue}
use Rattle.archive_state.specs.Content.{Content, Records}
use Rattle.archive_state.specs.Paths.{HasPath}
use Rattle.archive_state.proofs.Climbing.{stands_there}
use Rattle.archive_state.proofs.Lowest.{Ahead, ahead_of_all, ahead_found, ahead_none, ahead_past}
use Rattle.archive_state.proofs.state.State.place_at.Goals as goal
use Rattle.list_laws.proofs.Booleans.{never}

pub records-init : goal.records-init
records-init c =
    let gives = c.into_iter-at-iterator.ensures.into_iter_gives in
    rw gives.0 (subst (λ (s : Content). Ahead s.records (λ n. HasPath s.records n c.args.path.now)
    c.self.inside.records.entries) c.self.view_is
    (ahead_of_all c.self.inside.records.entries _ gives.5))

pub returns-then-has_path : goal.returns-then-has_path
returns-then-has_path c =
    let m : Records = c.args.self.now.records in
    let P : ℕ → Type 0 = λ n. HasPath m n c.args.path.now in
    ahead_found m P (c.in-Some.at.now, c.in-Some._record.now) c.next.new.self (λ n. stands_there m n c.args.path.now)
    (subst (Ahead m P) c.in-Some.ensures.steps c.records.invariant)
    (subst (HasPath m c.in-Some.at.now) (c.as_bytes.ensures.value ∙ c.as_str.ensures.same)
    (c.has_path.ensures.0 c.if-has_path.true))

pub returns : goal.returns
returns c =
    let m : Records = c.args.self.now.records in
    let P : ℕ → Type 0 = λ n. HasPath m n c.args.path.now in
    ahead_none m P (λ n. stands_there m n c.args.path.now)
    (subst (Ahead m P) c.in-None.ensures.steps.0 c.records.invariant)

pub records-preserved : goal.records-preserved
records-preserved c =
    let m : Records = c.args.self.now.records in
    let P : ℕ → Type 0 = λ n. HasPath m n c.args.path.now in
    ahead_past m P (c.in-Some.at.now, c.in-Some._record.now) c.next.new.self
    (subst (Ahead m P) c.in-Some.ensures.steps c.records.invariant)
    (λ p. never (subst IsTrue c.if-has_path.false
    (c.has_path.ensures.1
    (subst (HasPath m c.in-Some.at.now) (sym (c.as_bytes.ensures.value ∙ c.as_str.ensures.same)) p))))
