-- What a whole head asks a room of HTML for: a page with its query, or what is refused whatever the records are.
use Rattle.std.specs.Prelude.{
  ℕ,
  List,
  codes,
  not,
  ◌||◌,
  nat_eq,
  bytes_eq,
  Option,
  Some,
  None,
  option_map,
  if◌then◌else◌,
}
use Rattle.std.specs.List.{starts_with}
use Rattle.room_requests.specs.Asked.{has_right_hosts, only_reads}
use Rattle.room_requests.specs.Pages.{page_of}
use Rattle.room_requests.specs.Parts.{Head}
use Rattle.room_requests.specs.Targets.{local_of, path_of, query_of}
use Rattle.html_answers.specs.Hosts.{is_right_host}
use Rattle.html_answers.specs.declared.asked.HtmlAsked.{HtmlAsked}
use Rattle.html_answers.specs.declared.asked.HtmlAsked.TheVariants as asked
use Rattle.html_answers.specs.declared.asked.HtmlPage.{HtmlPage}
use Rattle.html_answers.specs.declared.asked.HtmlPage.TheVariants as page

-- the page that a path names: a search, the style sheet, or one that is also there as text
abbrev pub html_page_of : List ℕ → Option HtmlPage
html_page_of path = if bytes_eq path (codes "/search") then Some page.Search
    else (if bytes_eq path (codes "/style.css") then Some page.Style else option_map page.Room (page_of path))

-- the page, or 404
abbrev pub page_or_missing : Option HtmlPage → List ℕ → HtmlAsked
page_or_missing None query = asked.Refused 404
page_or_missing (Some found) query = asked.Page found query

-- a path with its query: 400 comes before 405, and this before 404
abbrev pub asked_at : Head → List ℕ → HtmlAsked
asked_at head target =
    if not (starts_with nat_eq target (codes "/")) then asked.Refused 400
    else (if not (only_reads head) then asked.Refused 405
    else page_or_missing (html_page_of (path_of target)) (query_of target))

-- what a head asks for; the Host is compared before all else
abbrev pub asked_by : Option (List ℕ) → Head → HtmlAsked
asked_by own head =
    if not (has_right_hosts head) || not (is_right_host own head) then asked.Refused 400
    else asked_at head (local_of head.target)
