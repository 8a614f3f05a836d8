-- A visit, by any reader and writer: what it has read of the whole input, and written of an answer to it.
use Rattle.std.specs.Prelude.{ℕ, ◌⊎◌, List, Option, IfSome}
use Rattle.std.specs.Io.KnownBytes.{Consumes, Keeps}
use Rattle.room_requests.specs.Visits.{Answering, AnswersBy, BeginsToServe}
use Rattle.visitors.specs.Lives.{HasGot, StaysAnswered}
use Rattle.visitors.specs.Turns.{MatchTurn}
use Rattle.visitors.specs.declared.taking.Taking.{Taking}
use Rattle.visitors.specs.declared.turn.Turn.{Turn}
use Rattle.visitors.specs.declared.visitor.Visitor.{Visitor}
use Rattle.visitors.specs.declared.visitor.Visitor.TheVariants as visitor

-- of an input some is left, and a writer that had `start` has `got`: who asks holds what was read, and nothing was
-- written; who takes has an answer to the input, of which as much was written as counts as that
abbrev pub IsVisit : Answering → (input start left got : Option (List ℕ)) → Visitor → Type 0
IsVisit answer input start left got (visitor.Asks a) = Consumes input left a.came.items × Keeps start got
IsVisit answer input start left got (visitor.Takes t) =
    IfSome input (λ bytes. AnswersBy answer bytes t.answer.items) × HasGot start got t

-- a visit that is over: nothing was written, or a prefix of an answer to the input
abbrev pub WasVisit : Answering → (input start got : Option (List ℕ)) → Type 0
WasVisit answer input start got = Keeps start got ⊎ BeginsToServe answer input start got

-- what calls on a connection leave
abbrev pub AfterCalls : Answering → (input start left got : Option (List ℕ)) → Turn Visitor → Type 0
AfterCalls answer input start left got turn =
    MatchTurn turn (IsVisit answer input start left got) (WasVisit answer input start got)

-- the visitor takes the same answer still
abbrev pub StillTakes : Taking → (start got : Option (List ℕ)) → Visitor → Type 0
StillTakes old start got (visitor.Asks a) = ⊥
StillTakes old start got (visitor.Takes t) = StaysAnswered old t × HasGot start got t
