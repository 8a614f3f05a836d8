-- The target of a request: its path and its query (RFC 9112, section 3.2).
use Rattle.std.specs.Prelude.{ℕ, List, [], ◌∷◌, drop, codes, Bool, ◌==◌, nat_eq, if◌then◌else◌}
use Rattle.std.specs.List.{starts_with, before_first, after_first}

-- from the first slash, or only a slash
abbrev pub from_slash : List ℕ → List ℕ
from_slash [] = codes "/"
from_slash (b ∷ rest) = if b == 47 then b ∷ rest else from_slash rest

-- without the scheme and the authority of one that begins with `http://`
abbrev pub local_of : List ℕ → List ℕ
local_of target = if starts_with nat_eq target (codes "http://") then from_slash (drop 7 target) else target

-- whether the byte is a question mark
abbrev pub is_question : ℕ → Bool
is_question b = b == 63

-- what stands before the first question mark, and after it
abbrev pub path_of : List ℕ → List ℕ
path_of text = before_first is_question text

abbrev pub query_of : List ℕ → List ℕ
query_of text = after_first is_question text
