-- Which hosts a room is asked for (RFC 9110, section 7.2). A page of any site may have its own name lead to this
-- machine: the Host says by which name the visitor came.
use Rattle.std.specs.Prelude.{
  ℕ,
  Bool,
  true,
  false,
  ◌&&◌,
  ◌||◌,
  ◌==◌,
  nat_le,
  List,
  [],
  ◌∷◌,
  length,
  take,
  drop,
  codes,
  Option,
  Some,
  None,
}
use Rattle.std.specs.Char.{is_ascii_digit}
use Rattle.std.specs.List.{list_all}
use Rattle.std.specs.Str.{str_eq_ignore_ascii_case}
use Rattle.room_requests.specs.Parts.{Head}

abbrev pub are_digits : List ℕ → Bool
are_digits bytes = list_all is_ascii_digit bytes

-- nothing, or a colon and digits
abbrev pub is_port : List ℕ → Bool
is_port [] = true
is_port (c ∷ cs) = (c == 58) && are_digits cs

-- that name in letters of any case, and a port after it or none
abbrev pub is_named : List ℕ → List ℕ → Bool
is_named host name = nat_le (length name) (length host)
    && (str_eq_ignore_ascii_case (take (length name) host) name && is_port (drop (length name) host))

-- this machine
abbrev pub is_local : List ℕ → Bool
is_local host = is_named host (codes "localhost")
    || (is_named host (codes "127.0.0.1") || is_named host (codes "[::1]"))

-- the name that the room was given, where it was given one
abbrev pub is_own : Option (List ℕ) → List ℕ → Bool
is_own None host = false
is_own (Some name) host = is_named host name

-- a request without Host is for any room
abbrev pub is_right_host : Option (List ℕ) → Head → Bool
is_right_host own head = (head.hosts == 0) || (is_local head.host || is_own own head.host)
