-- What bytes say that came of a connection, whatever follows them.
use Rattle.std.specs.Prelude.{ℕ, ◌<◌, List, ◌++◌, length}
use Rattle.room_requests.specs.Heads.{Begins, head_limit}
use Rattle.room_requests.specs.Reading.{IsUndecided}
use Rattle.room_requests.specs.Visits.{Answering, AnswersBy}
use Rattle.room_requests.specs.declared.head.HeadRead.{HeadRead}

-- what a connection begins with that begins with these bytes
abbrev pub BeginsAll : List ℕ → HeadRead → Type 0
BeginsAll came shown = (rest : List ℕ) → Begins (came ++ rest) shown

-- the answer to each connection that begins with these bytes
abbrev pub AnswersAll : Answering → List ℕ → List ℕ → Type 0
AnswersAll answer came output = (rest : List ℕ) → AnswersBy answer (came ++ rest) output

-- no head ends within the bytes, and one may come
abbrev pub IsOpen : List ℕ → Type 0
IsOpen came = IsUndecided came × (length came < head_limit)
