-- One request more.
use Rattle.std.proofs.Common.{
  rules,
  ◌≡◌,
  ◌≤◌,
  ◌+◌,
  ◌++◌,
  ◌∷◌,
  [],
  arith,
  ap,
  sym,
  subst,
  ◌∙◌,
  drop,
  false,
  true,
  is_some,
  length,
  refl,
  vec_len,
  vec_capacity,
}
use Rattle.std.proofs.lemmas.List.{length_push}
use Rattle.std.specs.List.{AllByRecursion, zip}
use Rattle.sqlite.specs.Held.{state}
use Rattle.store_tables.proofs.Loops.{item_left}
use Rattle.store_tables.proofs.Queries.{only_committed}
use Rattle.store.specs.Calls.{Performs}
use Rattle.store.specs.Histories.{AreLost, Outcome}
use Rattle.store.specs.Standing.{must_wait}
use Rattle.store.proofs.Called.{is_free, not_shut, run_call}
use Rattle.store.proofs.Running.{all_wait, clean_before, lost_then, one_more, performs_none, zip_none}
use Rattle.store.proofs.archive.Archive.run.Goals as goal

pub requests-init : goal.requests-init
requests-init g c =
    let was = c.args.self.now in
    let start = state g.S.Store was.conn in
    let rs = c.args.requests.now in
    let none : c.in_ok-outcomes.outcomes.items ≡ [] = search rules in
    let short : vec_len c.in_ok-outcomes.outcomes ≡ 0 = search rules in
    let room : length c.args.requests.now ≤ vec_capacity c.in_ok-outcomes.outcomes = search rules in (
      ap length none,
      short,
      room,
      λ clean sure. subst (λ os. Performs start (zip rs os) start) (sym none)
          (subst (λ calls. Performs start calls start) (sym (zip_none rs))
          (performs_none start (λ rows settled t l. only_committed start rows t settled
          (g.met.S.Store.settled was.conn.store t settled.is_open l)) clean)),
      λ alone. (subst (λ os. AreLost was.is_lost os was.is_lost) (sym none) refl, alone),
      λ lost. refl,
      λ kept waits. (subst (λ os. AllByRecursion (λ (o : Outcome). o ≡ must_wait) os) (sym none) tt, refl),
    )

pub requests-preserved : goal.requests-preserved
requests-preserved g c =
    let start = c.args.self.now in
    let now = c.requests.self in
    let next = c.perform-outcome.new.self in
    let rs = c.args.requests.now in
    let os = c.requests.outcomes.items in
    let i = c.requests.request-index in
    let r = c.request-item.result in
    let o = c.perform-outcome.result in
    let inv = c.requests.invariant in
    let did = c.perform-outcome.ensures in
    let items : c.push.new.self.items ≡ os ++ o ∷ [] = search rules in
    let len : vec_len c.push.new.self ≡ i + 1 = search rules in
    let room : length c.args.requests.now ≤ vec_capacity c.push.new.self = search rules in
    let here : drop (length os) rs ≡ r ∷ drop (i + 1) rs = ap (λ n. drop n rs) inv.0
    ∙ item_left rs i r r c.requests-test.true c.request-item.is in
    let stays : now.is_lost ≡ true → next.conn ≡ now.conn = λ lost. ap (λ a. a.conn) (did.reopen lost).1 in (
      ap length items ∙ length_push os o ∙ ap (λ n. n + 1) inv.0,
      len,
      room,
      λ clean sure.
          let free = not_shut start.is_lost start.import sure in
          let alone = inv.4 free.1 in
          let goes : now.is_lost ≡ false → Performs (state g.S.Store now.conn) ((r, o) ∷ [])
          (state g.S.Store next.conn) =
          λ kept. did.performs clean (is_free now.is_lost now.import kept alone.1) in
          subst (λ xs. Performs (state g.S.Store start.conn) (zip rs xs) (state g.S.Store next.conn)) (sym items)
          (one_more g.S.Store start.conn now.conn next.conn now.is_lost rs (drop (i + 1) rs) os r o here
          (omega (arith, inv.0, c.requests-test.true))
          (subst (λ b. AreLost b os now.is_lost) free.0 alone.0)
          (inv.3 (clean_before g.S.Store now.conn next.conn now.is_lost r o goes stays clean) sure) goes stays),
      λ none.
          let alone = inv.4 none in (
            subst (λ xs. AreLost start.is_lost xs next.is_lost) (sym items)
                (lost_then start.is_lost now.is_lost next.is_lost os o alone.0 (λ lost.
                let again = did.reopen lost in
                (again.0, ap (λ a. a.is_lost) again.1 ∙ lost))
                (λ kept. did.failed (is_free now.is_lost now.import kept alone.1))),
            did.alone alone.1,
          ),
      λ lost. let was = inv.5 lost in (did.reopen (ap (λ a. a.is_lost) was ∙ lost)).1 ∙ was,
      λ kept waits.
          let was = inv.6 kept waits in
          let again = did.waits (ap (λ a. a.is_lost) was.1 ∙ kept) (ap (λ a. is_some a.import) was.1 ∙ waits) in (
            subst (λ xs. AllByRecursion (λ (p : Outcome). p ≡ must_wait) xs) (sym items)
                (all_wait os o was.0 again.0),
            again.1 ∙ was.1,
          ),
    )

pub returns-clause-called : goal.returns-clause-called
returns-clause-called g c r =
    let inv = c.requests.invariant in
    let was = c.args.self.now in
    let now = c.requests.self in
    run_call g.S.Store was.conn now.conn r c.args.requests.now c.requests.outcomes.items was.is_lost now.is_lost
    was.import now.import inv.4
    (λ lost.
    let same = inv.5 lost in
    (ap (λ a. a.conn) same, ap (λ a. a.is_lost) same, ap (λ a. a.import) same))
    (λ kept waits.
    let same = (inv.6 kept waits).1 in
    (ap (λ a. a.conn) same, ap (λ a. a.is_lost) same, ap (λ a. a.import) same))
    inv.3
