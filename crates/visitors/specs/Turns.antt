-- What a call on a connection leaves.
use Rattle.std.specs.Prelude.{⊤}
use Rattle.visitors.specs.declared.turn.Turn.{Turn}
use Rattle.visitors.specs.declared.turn.Turn.TheVariants as turn

-- what holds of the visitor, and what where the visit is over
abbrev pub MatchTurn : {V : Type 0} → Turn V → (V → Type 0) → Type 0 → Type 0
MatchTurn (turn.On v) P lost = P v
MatchTurn (turn.Waits v) P lost = P v
MatchTurn turn.Lost P lost = lost

abbrev pub AfterTurn : {V : Type 0} → Turn V → (V → Type 0) → Type 0
AfterTurn t P = MatchTurn t P ⊤
