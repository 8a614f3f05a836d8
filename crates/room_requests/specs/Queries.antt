-- The values of a query (`application/x-www-form-urlencoded`, the URL Standard, section 5).
use Rattle.std.specs.Prelude.{ℕ, List, [], ◌∷◌, codes, Option, Some, None, nat_le, bytes_eq, if◌then◌else◌}
use Rattle.std.specs.Str.Lossy.{utf8_lossy}
use Rattle.form_urlencoded.specs.Form.{raw_pairs, decode}
use Rattle.room_requests.specs.Pages.{number_in}

-- the text that a name or a value stands for
abbrev pub text_of : List ℕ → List ℕ
text_of bytes = utf8_lossy (decode bytes)

-- the value of the first pair of that name
abbrev pub first_named : List ℕ → List (List ℕ × List ℕ) → Option (List ℕ)
first_named name [] = None
first_named name (pair ∷ rest) =
    if bytes_eq (text_of pair.0) name then Some (text_of pair.1) else first_named name rest

-- the value that a query gives a name
abbrev pub value_of : List ℕ → List ℕ → Option (List ℕ)
value_of name query = first_named name (raw_pairs query)

-- a number, where it is at most so much
abbrev pub at_most : ℕ → Option ℕ → Option ℕ
at_most most None = None
at_most most (Some number) = if nat_le number most then Some number else None

-- how many generations a value asks for: one or two digits of value 1 to 12, or 4 where there is no value
abbrev pub generations_in : Option (List ℕ) → Option ℕ
generations_in None = Some 4
generations_in (Some text) = at_most 12 (number_in 2 text)

-- how many generations a query asks for
abbrev pub generations_of : List ℕ → Option ℕ
generations_of query = generations_in (value_of (codes "generations") query)
