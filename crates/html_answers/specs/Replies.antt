-- The bytes of an answer with a page of HTML or the style sheet (RFC 9112, section 4; RFC 9110, section 8.3; Content
-- Security Policy Level 3; Fetch, section 3.6; Referrer Policy, section 3.1; RFC 9111, section 5.2.2.5).
use Rattle.std.specs.Prelude.{ℕ, List, [], ◌++◌, length, codes, Bool, if◌then◌else◌}
use Rattle.html_parts.specs.Errors.{error_parts, phrase_of}
use Rattle.html_parts.specs.Frame.{frame_parts}
use Rattle.html_parts.specs.Parts.{page_bytes}
use Rattle.room_requests.specs.Replies.{allow_line, size_line, status_line}
use Rattle.html_answers.specs.declared.replies.Media.{Media}
use Rattle.html_answers.specs.declared.replies.Media.TheVariants as media

unfoldable pub type_line : Media → List ℕ
type_line media.Html = codes "Content-Type: text/html; charset=utf-8\r\n"
type_line media.Css = codes "Content-Type: text/css; charset=utf-8\r\n"

-- nothing but the style sheet is loaded, a form asks only this room, and no other page frames this one
unfoldable pub policy_line : List ℕ
policy_line = codes "Content-Security-Policy: default-src 'none'; style-src 'self'; "
    ++ codes "form-action 'self'; base-uri 'none'; frame-ancestors 'none'\r\n"

-- a page is what its type says, no site hears where a visitor was, and nobody stores it
unfoldable pub privacy_lines : List ℕ
privacy_lines = codes "X-Content-Type-Options: nosniff\r\nReferrer-Policy: no-referrer\r\n"
    ++ codes "Cache-Control: no-store\r\n"

unfoldable pub close_line : List ℕ
close_line = codes "Connection: close\r\n\r\n"

-- what the head of each answer ends with
abbrev pub last_lines : List ℕ
last_lines = policy_line ++ privacy_lines ++ close_line

-- the head of an answer whose page has so many bytes
abbrev pub head_of : ℕ → Media → ℕ → List ℕ
head_of status kind size =
    status_line status
    ++ allow_line status
    ++ type_line kind
    ++ size_line size
    ++ last_lines

-- an answer: its head, and its page where that is wanted
abbrev pub reply : ℕ → Media → List ℕ → Bool → List ℕ
reply status kind page with_page = head_of status kind (length page) ++ (if with_page then page else [])

-- the page of a status that refuses
abbrev pub refusal_page : List ℕ → ℕ → List ℕ
refusal_page society status = page_bytes (frame_parts society (phrase_of status) (error_parts status))

-- the answer of a status that refuses
abbrev pub refusal : List ℕ → ℕ → Bool → List ℕ
refusal society status with_page = reply status media.Html (refusal_page society status) with_page
