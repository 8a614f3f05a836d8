-- The requests that make the places of a page: under which token, and within which place. Rules of our own.
use Rattle.std.specs.Prelude.{ℕ, List, [], ◌∷◌, ◌++◌, take, Option, None, Result, Ok}
use Rattle.hex.specs.Hex.{encode_lower}
use Rattle.sha2.specs.Sha256.{sha256}
use Rattle.archive_state.specs.Content.{Content}
use Rattle.commands.specs.Fields.{text_of}
use Rattle.page_places.specs.Ways.{above}
use Rattle.page_batches.specs.Looks.{Found, at_path}

-- ---- tokens
-- `p`, and of the SHA-256 of the token of the batch, LF and the path the first 63 hexadecimal digits
abbrev pub place_token : List ℕ → List ℕ → List ℕ
place_token token path = 112 ∷ take 63 (encode_lower (sha256 (token ++ 10 ∷ path)))

-- ---- the place that another is made within
abbrev pub parent_by : Content → List (List ℕ) → Found
parent_by c [] = Ok None
parent_by c (path ∷ paths) = at_path c (text_of path)

-- the lowest place of the path above; none at the top
abbrev pub parent_on : Content → List ℕ → Found
parent_on c path = parent_by c (above path)
