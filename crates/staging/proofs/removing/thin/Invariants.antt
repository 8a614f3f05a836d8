-- At each turn the lines of the number are fewer, and all that is left means what it meant.
use Rattle.std.proofs.Common.{◌≡◌, ℕ, List, true, false}
use Rattle.std.specs.Prelude.{◌==◌}
use Rattle.std.specs.List.{list_any}
use Rattle.sqlite.specs.Held.{state}
use Rattle.staging.specs.Clearing.{IsThinned}
use Rattle.staging.proofs.Cleared.{IsOnTheWay}
use Rattle.staging.proofs.removing.thin.Given as goal

abbrev pub invariant-parts : goal.invariant-parts
invariant-parts g l =
    (l.conn.in_transaction ≡ false)
    × ((ns : List ℕ) → list_any (λ n. n == l.number) ns ≡ true
    → IsOnTheWay ns (IsThinned l.number) (state g.S.Store l.fn.conn) (state g.S.Store l.conn))
