-- The answer to what a connection begins with, by the masked records, and the names of the society and of the room.
use Rattle.std.specs.Prelude.{ℕ, List, [], Bool, true, not, Option}
use Rattle.archive_state.specs.Content.{Records}
use Rattle.room_requests.specs.Asked.{is_head}
use Rattle.room_requests.specs.declared.head.HeadRead.{HeadRead}
use Rattle.room_requests.specs.declared.head.HeadRead.TheVariants as read
use Rattle.html_answers.specs.Asked.{asked_by}
use Rattle.html_answers.specs.Replies.{refusal, reply}
use Rattle.html_answers.specs.Showing.{shown}
use Rattle.html_answers.specs.declared.asked.HtmlAsked.{HtmlAsked}
use Rattle.html_answers.specs.declared.asked.HtmlAsked.TheVariants as asked
use Rattle.html_answers.specs.declared.replies.Media.TheVariants as media
use Rattle.html_answers.specs.declared.showing.HtmlFound.{HtmlFound}
use Rattle.html_answers.specs.declared.showing.HtmlFound.TheVariants as found

-- the answer that a page gets: 404 where it is not shown, and 400 where its query is wrong
abbrev pub page_answer : List ℕ → HtmlFound → Bool → List ℕ
page_answer society (found.Page text) with_page = reply 200 media.Html text with_page
page_answer society (found.Style text) with_page = reply 200 media.Css text with_page
page_answer society found.NotShown with_page = refusal society 404 with_page
page_answer society found.WrongQuery with_page = refusal society 400 with_page

-- the answer to what a head asks for
abbrev pub answer_of : Records → List ℕ → HtmlAsked → Bool → List ℕ
answer_of m society (asked.Refused status) with_page = refusal society status with_page
answer_of m society (asked.Page page query) with_page = page_answer society (shown m society page query) with_page

-- the answer to what a connection begins with; where no method was read it has its page
abbrev pub answer_to : Records → List ℕ → Option (List ℕ) → HeadRead → List ℕ
answer_to m society own read.Nothing = []
answer_to m society own read.Malformed = refusal society 400 true
answer_to m society own read.TooLarge = refusal society 431 true
answer_to m society own (read.Whole head) = answer_of m society (asked_by own head) (not (is_head head))
