-- The bytes of an answer (RFC 9112, sections 4, 6.2 and 9.6; RFC 9110, sections 8.3, 8.6, 9.3.2 and 10.2.1).
use Rattle.std.specs.Prelude.{ℕ, List, [], ◌++◌, length, codes, decimal, Bool, ◌==◌, unwrap_or, if◌then◌else◌}
use Rattle.http.specs.StatusCode.{code_digits, reason_phrase}

-- the canonical phrase of a status
unfoldable pub phrase_of : ℕ → List ℕ
phrase_of status = unwrap_or (reason_phrase status) []

abbrev pub status_line : ℕ → List ℕ
status_line status = codes "HTTP/1.1 " ++ code_digits status ++ codes " " ++ phrase_of status ++ codes "\r\n"

-- which methods there are, said only with 405
abbrev pub allow_line : ℕ → List ℕ
allow_line status = if status == 405 then codes "Allow: GET, HEAD\r\n" else []

-- how many bytes the page has
abbrev pub size_line : ℕ → List ℕ
size_line size = codes "Content-Length: " ++ decimal size ++ codes "\r\n"

-- the head of an answer whose page has so many bytes
abbrev pub head_of : ℕ → ℕ → List ℕ
head_of status size =
    status_line status
    ++ allow_line status
    ++ codes "Content-Type: text/plain; charset=utf-8\r\n"
    ++ size_line size
    ++ codes "Connection: close\r\n\r\n"

-- an answer: its head, and its page where that is wanted
abbrev pub reply : ℕ → List ℕ → Bool → List ℕ
reply status page with_page = head_of status (length page) ++ (if with_page then page else [])

-- the page of a status that refuses: its phrase and a line feed
abbrev pub refusal_page : ℕ → List ℕ
refusal_page status = phrase_of status ++ codes "\n"

-- the answer of a status that refuses
abbrev pub refusal : ℕ → Bool → List ℕ
refusal status with_page = reply status (refusal_page status) with_page
