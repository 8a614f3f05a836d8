-- What the bytes of a connection begin with: the head of a request (RFC 9112, sections 2, 3 and 5, by the
-- grammar of `httparse`), no byte at all, or what is refused.
use Rattle.std.specs.Prelude.{
  ℕ,
  ◌≡◌,
  ◌<◌,
  ◌≤◌,
  ◌⊎◌,
  Bool,
  if◌then◌else◌,
  List,
  [],
  ◌∷◌,
  map,
  take,
  length,
  codes,
}
use Rattle.std.specs.List.{count_by}
use Rattle.std.specs.Str.{str_eq_ignore_ascii_case}
use Rattle.httparse.specs.Grammar.{Field, RequestHead, ReadsRequest, HasNoRequest, print_request}
use Rattle.httparse.specs.Spans.{RequestExceeds, name_and_value}
use Rattle.room_requests.specs.Parts.{Head}
use Rattle.room_requests.specs.declared.head.HeadRead.{HeadRead}
use Rattle.room_requests.specs.declared.head.HeadRead.TheVariants as read

-- the most bytes of a head
abbrev pub head_limit : ℕ
head_limit = 8192

-- the most header lines
abbrev pub line_limit : ℕ
line_limit = 64

-- the name of a header line is Host, in letters of any case
abbrev pub is_host : Field → Bool
is_host f = str_eq_ignore_ascii_case f.name (codes "host")

-- the value of the first of these names and values whose name is Host; empty where there is none
abbrev pub first_host : List (List ℕ × List ℕ) → List ℕ
first_host [] = []
first_host (line ∷ lines) =
    if str_eq_ignore_ascii_case line.0 (codes "host") then line.1 else first_host lines

-- what is looked at of a head
abbrev pub head_of : RequestHead → Head
head_of h = record {
  method = h.method;
  target = h.target;
  minor = h.minor;
  hosts = count_by is_host h.fields;
  host = first_host (map name_and_value h.fields);
}

-- the bytes begin with this head, which is within both limits
pub record BeginsWith (input : List ℕ) (h : RequestHead) : Type 0 where
  pub rest : List ℕ
  pub reads : ReadsRequest input h rest
  pub size : length (print_request h) ≤ head_limit
  pub lines : length h.fields ≤ line_limit

-- a head has more than 64 lines before it ends, if it does
pub record HasManyLines (input : List ℕ) : Type 0 where
  pub exceeds : RequestExceeds line_limit input
  pub all : (h : RequestHead) (rest : List ℕ) → ReadsRequest input h rest → line_limit < length h.fields

-- no head ends within the first 8,192 bytes
pub record IsLong (input : List ℕ) : Type 0 where
  pub size : head_limit ≤ length input
  pub none : HasNoRequest (take head_limit input)

-- what all bytes of a connection begin with: where they begin with no head, that is malformed or cut, and where
-- one is too large besides, it may be called either
abbrev pub Begins : List ℕ → HeadRead → Type 0
Begins input read.Nothing = input ≡ []
Begins input read.Malformed = (0 < length input) × HasNoRequest input
Begins input read.TooLarge = HasManyLines input ⊎ IsLong input
Begins input (read.Whole head) = (h : RequestHead) × BeginsWith input h × (head ≡ head_of h)

-- the head is refused
abbrev pub IsRefused : HeadRead → Type 0
IsRefused shown = (shown ≡ read.Malformed) ⊎ (shown ≡ read.TooLarge)
