-- The answer to a row: a row of the token, `ok`, and the first number with how many; or of the token, `refused`, and
-- the number and the name of the refusal. A rule of our own.
use Rattle.std.specs.Prelude.{ℕ, List, [], ◌∷◌, Result, Ok, Err, codes, decimal, unwrap_or}
use Rattle.csv.specs.Writing.{default_writer, row_text}
use Rattle.record_text.specs.Refusals.{name_of, number_of}
use Rattle.record_text.specs.declared.refusal.Refusal.{Refusal}
use Rattle.record_text.specs.declared.refusal.RefusalKind.{RefusalKind}
use Rattle.receipts.specs.declared.answer.Answer.{Answer}
use Rattle.archive_core.specs.Machine.{Done}
use Rattle.archive_input.specs.declared.bad_request.BadRequest.{BadRequest}

abbrev pub refused_row : List ℕ → RefusalKind → List (List ℕ)
refused_row token kind = token ∷ codes "refused" ∷ decimal (number_of kind) ∷ name_of kind ∷ []

abbrev pub outcome_row : List ℕ → Result Answer Refusal → List (List ℕ)
outcome_row token (Ok answer) = token ∷ codes "ok" ∷ decimal answer.first ∷ decimal answer.count ∷ []
outcome_row token (Err e) = refused_row token e.kind

-- what became of a row: a request with its outcome, or why it is no request
abbrev pub Served : Type 0
Served = Result Done BadRequest

-- the token is empty where none is known
abbrev pub answer_row : Served → List (List ℕ)
answer_row (Ok done) = outcome_row done.0.token done.1
answer_row (Err bad) = refused_row (unwrap_or bad.token []) bad.kind

-- by the default writer of `csv`
abbrev pub answer_text : Served → List ℕ
answer_text served = row_text default_writer (answer_row served)
