use Rattle.std.proofs.Common.{◌≡◌, ◌≤◌, None, false, true, is_some, length, vec_len, vec_capacity}
use Rattle.std.specs.List.{AllByRecursion, zip}
use Rattle.sqlite.specs.Held.{state}
use Rattle.sqlite.specs.State.{HasCleanDisk}
use Rattle.store.specs.Calls.{Performs}
use Rattle.store.specs.Histories.{AreLost, Outcome}
use Rattle.store.specs.Standing.{must_wait, shuts}
use Rattle.store.proofs.archive.Archive.run.Given as goal

abbrev pub invariant-requests : goal.invariant-requests
invariant-requests g l =
    let start = state g.S.Store l.fn.self.conn in
    let now = state g.S.Store l.self.conn in
    (length l.outcomes.items ≡ l.request-index) × (vec_len l.outcomes ≡ l.request-index)
    × (length l.requests ≤ vec_capacity l.outcomes)
    × (HasCleanDisk now → shuts l.fn.self.is_lost l.fn.self.import ≡ false
    → Performs start (zip l.requests l.outcomes.items) now)
    × (l.fn.self.import ≡ None
    → AreLost l.fn.self.is_lost l.outcomes.items l.self.is_lost × (l.self.import ≡ None))
    × (l.fn.self.is_lost ≡ true → l.self ≡ l.fn.self)
    × (l.fn.self.is_lost ≡ false → is_some l.fn.self.import ≡ true
    → AllByRecursion (λ (o : Outcome). o ≡ must_wait) l.outcomes.items × (l.self ≡ l.fn.self))
