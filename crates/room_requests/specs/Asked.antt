-- What a whole head asks for: a page with its query, or what is refused whatever the records are.
use Rattle.std.specs.Prelude.{
  ℕ,
  List,
  codes,
  Bool,
  ◌&&◌,
  ◌||◌,
  not,
  nat_eq,
  ◌==◌,
  bytes_eq,
  Option,
  Some,
  None,
  if◌then◌else◌,
}
use Rattle.std.specs.List.{starts_with}
use Rattle.room_requests.specs.Parts.{Head}
use Rattle.room_requests.specs.Pages.{page_of}
use Rattle.room_requests.specs.Targets.{local_of, path_of, query_of}
use Rattle.room_requests.specs.declared.asked.Asked.{Asked}
use Rattle.room_requests.specs.declared.asked.Asked.TheVariants as asked
use Rattle.room_requests.specs.declared.page.Page.{Page}

-- one Host, or none of HTTP/1.0
abbrev pub has_right_hosts : Head → Bool
has_right_hosts head = head.hosts == 1 || (head.hosts == 0 && head.minor == 0)

-- whether the request is a HEAD, which is answered without its page
abbrev pub is_head : Head → Bool
is_head head = bytes_eq head.method (codes "HEAD")

-- a page is only read
abbrev pub only_reads : Head → Bool
only_reads head = bytes_eq head.method (codes "GET") || is_head head

-- the page, or 404
abbrev pub page_or_missing : Option Page → List ℕ → Asked
page_or_missing None query = asked.Refused 404
page_or_missing (Some found) query = asked.Page found query

-- a path with its query, that is: after the host and the scheme are judged
abbrev pub asked_at : Head → List ℕ → Asked
asked_at head target =
    if not (starts_with nat_eq target (codes "/")) then asked.Refused 400
    else (if not (only_reads head) then asked.Refused 405
    else page_or_missing (page_of (path_of target)) (query_of target))

-- what a head asks for: 400 comes before 405, and this before 404
abbrev pub asked_by : Head → Asked
asked_by head = if not (has_right_hosts head) then asked.Refused 400 else asked_at head (local_of head.target)
