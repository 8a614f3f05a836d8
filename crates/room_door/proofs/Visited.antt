-- What a call on a connection makes of a visit.
use Rattle.std.proofs.Common.{
  ◌≡◌,
  ◌++◌,
  ◌∙◌,
  ℕ,
  List,
  [],
  Option,
  Some,
  None,
  Bool,
  true,
  false,
  take,
  subst,
  sym,
  ap,
  append-nil,
  inl,
  inr,
}
use Rattle.std.proofs.KnownBytes.{Appends-nil}
use Rattle.std.specs.Prelude.{IfSome, MatchBool}
use Rattle.std.specs.Bool.{OnTrue}
use Rattle.std.specs.Io.KnownBytes.{Appends, Consumes, IsAtEnd, Keeps}
use Rattle.devices.specs.Devices.{AppendsBeginning}
use Rattle.room_requests.specs.Arriving.{AnswersAll}
use Rattle.room_requests.specs.Visits.{Answering, AnswersBy}
use Rattle.visitors.specs.Lives.{IsAnswered, StaysAnswered, AsksSince, EndsAt, HasGot, IsRight, TakesSince, came_of}
use Rattle.visitors.specs.Turns.{AfterTurn, MatchTurn}
use Rattle.visitors.specs.declared.asking.Asking.{Asking}
use Rattle.visitors.specs.declared.taking.Taking.{Taking}
use Rattle.visitors.specs.declared.turn.Turn.{Turn}
use Rattle.visitors.specs.declared.turn.Turn.TheVariants as turn
use Rattle.visitors.specs.declared.visitor.Visitor.{Visitor}
use Rattle.visitors.specs.declared.visitor.Visitor.TheVariants as visitor
use Rattle.visitors.proofs.Moved.{got_none}
use Rattle.room_door.specs.Visiting.{AfterCalls, IsVisit, StillTakes, WasVisit}

abbrev IsAnsweredBy : Answering → Bool → (came output : List ℕ) → Type 0
IsAnsweredBy answer is_ended came output =
    MatchBool is_ended (AnswersBy answer came output) (AnswersAll answer came output)

-- the answer is one to the whole input
to_all : (answer : Answering) (came output bytes rest : List ℕ) (is_ended : Bool)
    → MatchBool is_ended (AnswersBy answer came output) (AnswersAll answer came output) → bytes ≡ came ++ rest
    → OnTrue is_ended (rest ≡ []) → AnswersBy answer bytes output
to_all answer came output bytes rest true right is none =
    subst (λ it. AnswersBy answer it output) (sym (is ∙ ap (λ it. came ++ it) none ∙ append-nil came)) right
to_all answer came output bytes rest false right is none =
    subst (λ it. AnswersBy answer it output) (sym is) (right rest)

answers_input : (answer : Answering) (input left : Option (List ℕ)) (came output : List ℕ) (is_ended : Bool)
    → MatchBool is_ended (AnswersBy answer came output) (AnswersAll answer came output) → Consumes input left came
    → OnTrue is_ended (IsAtEnd left) → IfSome input (λ bytes. AnswersBy answer bytes output)
answers_input answer None left came output is_ended right given ended = tt
answers_input answer (Some bytes) None came output is_ended right given ended = absurd given
answers_input answer (Some bytes) (Some rest) came output is_ended right given ended =
    to_all answer came output bytes rest is_ended right given ended

-- nothing was written yet
wrote_none : (start got : Option (List ℕ)) (bytes : List ℕ) (written : ℕ) → written ≡ 0 → Keeps start got
    → Appends start got (take written bytes)
wrote_none start got bytes written none kept =
    subst (λ n. Appends start got (take n bytes)) (sym none)
    (got_none start start got [] (Appends-nil start) kept)

is_visit : (answer : Answering) (input start left got : Option (List ℕ)) (now : ℕ) (v : Visitor) → IsRight answer v
    → Consumes input left (came_of v) → EndsAt left v → TakesSince now v → Keeps start got
    → IsVisit answer input start left got v
is_visit answer input start left got now (visitor.Asks a) right given ended since kept = (given, kept)
is_visit answer input start left got now (visitor.Takes t) right given ended since kept = (
  answers_input answer input left t.came.items t.answer.items t.is_ended right given ended,
  wrote_none start got t.answer.items t.written since.1 kept,
)

-- after a read of who asks
pub heard : (answer : Answering) (input start before left got : Option (List ℕ)) (now : ℕ) (came : List ℕ)
    (t : Turn Visitor) → AfterTurn t (IsRight answer)
    → ((from : Option (List ℕ)) → Consumes from before came → AfterTurn t (λ v. Consumes from left (came_of v)))
    → AfterTurn t (EndsAt left) → AfterTurn t (TakesSince now) → Consumes input before came → Keeps start got
    → AfterCalls answer input start left got t
heard answer input start before left got now came (turn.On v) right given ended since had kept =
    is_visit answer input start left got now v right (given input had) ended since kept
heard answer input start before left got now came (turn.Waits v) right given ended since had kept =
    is_visit answer input start left got now v right (given input had) ended since kept
heard answer input start before left got now came turn.Lost right given ended since had kept = inl kept

is_same : (answer : Answering) (input start left got : Option (List ℕ)) (old : Taking) (v : Visitor)
    → StillTakes old start got v → IfSome input (λ bytes. AnswersBy answer bytes old.answer.items)
    → IsVisit answer input start left got v
is_same answer input start left got old (visitor.Asks a) still right = absurd still
is_same answer input start left got old (visitor.Takes t) still right =
    (subst (λ output. IfSome input (λ bytes. AnswersBy answer bytes output)) (sym still.0.answer) right, still.1)

-- after a write to who takes
pub took : (answer : Answering) (input start left got : Option (List ℕ)) (old : Taking) (t : Turn Visitor)
    → MatchTurn t (StillTakes old start got) (AppendsBeginning start got old.answer.items)
    → IfSome input (λ bytes. AnswersBy answer bytes old.answer.items) → AfterCalls answer input start left got t
took answer input start left got old (turn.On v) after right = is_same answer input start left got old v after right
took answer input start left got old (turn.Waits v) after right = is_same answer input start left got old v after right
took answer input start left got old turn.Lost after right = inr (old.answer.items, right, after)

right_again : (answer : Answering) (old t : Taking) → StaysAnswered old t → IsAnswered answer old → IsAnswered answer t
right_again answer old t same right =
    subst (λ ended. IsAnsweredBy answer ended t.came.items t.answer.items) (sym same.is_ended)
    (subst (λ output. IsAnsweredBy answer old.is_ended t.came.items output) (sym same.answer)
    (subst (λ came. IsAnsweredBy answer old.is_ended came old.answer.items) (sym same.came) right))

still_answered : (answer : Answering) (start got : Option (List ℕ)) (old : Taking) (v : Visitor)
    → StillTakes old start got v → IsAnswered answer old → IsRight answer v
still_answered answer start got old (visitor.Asks a) still right = absurd still
still_answered answer start got old (visitor.Takes t) still right = right_again answer old t still.0 right

-- after a write to who takes the answer is right still
pub still_right : (answer : Answering) (old : Taking) (start got : Option (List ℕ)) (t : Turn Visitor)
    → MatchTurn t (StillTakes old start got) (AppendsBeginning start got old.answer.items) → IsAnswered answer old
    → AfterTurn t (IsRight answer)
still_right answer old start got (turn.On v) after right = still_answered answer start got old v after right
still_right answer old start got (turn.Waits v) after right = still_answered answer start got old v after right
still_right answer old start got turn.Lost after right = tt
