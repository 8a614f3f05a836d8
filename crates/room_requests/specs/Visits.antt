-- The answer to all bytes of a connection, by what the room shows.
use Rattle.std.specs.Prelude.{ℕ, ◌≡◌, ◌⊎◌, List, [], Bool, true, not, Option, IfSome}
use Rattle.std.specs.Io.KnownBytes.{Appends}
use Rattle.devices.specs.Devices.{AppendsBeginning}
use Rattle.room_requests.specs.Heads.{Begins}
use Rattle.room_requests.specs.declared.head.HeadRead.{HeadRead}
use Rattle.room_requests.specs.declared.head.HeadRead.TheVariants as read
use Rattle.room_requests.specs.Replies.{reply, refusal}
use Rattle.room_requests.specs.Asked.{asked_by, is_head}
use Rattle.room_requests.specs.declared.asked.Asked.{Asked}
use Rattle.room_requests.specs.declared.asked.Asked.TheVariants as asked
use Rattle.room_requests.specs.declared.page.Page.{Page}
use Rattle.room_requests.specs.declared.pages.PageFound.{PageFound}
use Rattle.room_requests.specs.declared.pages.PageFound.TheVariants as found

-- what a room shows of a page and its query
abbrev pub Room : Type 0
Room = Page → List ℕ → PageFound

-- the answer that a page gets: 404 where its record is not shown, and 400 where its query is wrong
abbrev pub page_answer : PageFound → Bool → List ℕ
page_answer (found.Text text) with_page = reply 200 text with_page
page_answer found.NotShown with_page = refusal 404 with_page
page_answer found.WrongQuery with_page = refusal 400 with_page

-- the answer to what a head asks for
abbrev pub answer_of : Room → Asked → Bool → List ℕ
answer_of room (asked.Refused status) with_page = refusal status with_page
answer_of room (asked.Page page query) with_page = page_answer (room page query) with_page

-- the answer to what a connection begins with; where no method was read it has its page
abbrev pub answer_to : Room → HeadRead → List ℕ
answer_to room read.Nothing = []
answer_to room read.Malformed = refusal 400 true
answer_to room read.TooLarge = refusal 431 true
answer_to room (read.Whole head) = answer_of room (asked_by head) (not (is_head head))

-- what is answered to what a connection begins with
abbrev pub Answering : Type 0
Answering = HeadRead → List ℕ

-- these bytes are an answer to that input
abbrev pub AnswersBy : Answering → List ℕ → List ℕ → Type 0
AnswersBy answer input output = (shown : HeadRead) × Begins input shown × (output ≡ answer shown)

-- the same of a room
abbrev pub Answers : Room → List ℕ → List ℕ → Type 0
Answers room input output = AnswersBy (answer_to room) input output

-- a head that is malformed or cut, and too large, may be answered as either
abbrev pub IsEitherBy : Answering → List ℕ → Type 0
IsEitherBy answer output = (output ≡ answer read.Malformed) ⊎ (output ≡ answer read.TooLarge)

-- in a room that is with 400 or 431, whatever the room shows
abbrev pub IsEither : List ℕ → Type 0
IsEither output = (output ≡ refusal 400 true) ⊎ (output ≡ refusal 431 true)

-- the writer has got an answer to the input, where that is known
abbrev pub Served : Answering → Option (List ℕ) → Option (List ℕ) → Option (List ℕ) → Type 0
Served answer input old new =
    (output : List ℕ) × IfSome input (λ bytes. AnswersBy answer bytes output) × Appends old new output

-- the writer has got a beginning of an answer to the input
abbrev pub BeginsToServe : Answering → Option (List ℕ) → Option (List ℕ) → Option (List ℕ) → Type 0
BeginsToServe answer input old new =
    (output : List ℕ) × IfSome input (λ bytes. AnswersBy answer bytes output) × AppendsBeginning old new output
