-- Rooms that show the same records answer alike.
use Rattle.std.proofs.Common.{◌≡◌, ◌⊎◌, ℕ, List, ap}
use Rattle.std.specs.Prelude.{Option}
use Rattle.archive_state.specs.Content.{Records}
use Rattle.room_requests.specs.Visits.{Answering, AnswersBy, IsEitherBy}
use Rattle.html_answers.specs.Answers.{answer_to}

-- that who answers alike to what bytes begin with, answers the same bytes alike
abbrev pub AnswersDecide : Type 0
AnswersDecide = (answer other : Answering) (input one two : List ℕ) → answer ≡ other → AnswersBy answer input one
    → AnswersBy other input two → (one ≡ two) ⊎ (IsEitherBy answer one × IsEitherBy other two)

pub by_records : AnswersDecide → (m n : Records) (society : List ℕ) (own : Option (List ℕ)) (input one two : List ℕ)
    → m ≡ n → AnswersBy (answer_to m society own) input one → AnswersBy (answer_to n society own) input two
    → (one ≡ two) ⊎ (IsEitherBy (answer_to m society own) one × IsEitherBy (answer_to n society own) two)
by_records law m n society own input one two same =
    law (answer_to m society own) (answer_to n society own) input one two
    (ap (λ (x : Records). answer_to x society own) same)
