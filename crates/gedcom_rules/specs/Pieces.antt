-- A file cut at each CR and LF (The GEDCOM Standard Release 5.5.1, chapter 1: each of CR, LF, CR LF and LF CR ends a
-- line; a piece of only white space is no line, so it is enough to cut at each of the two).
use Rattle.std.specs.Prelude.{◌≡◌, ℕ, Bool, true, false, ◌&&◌, ◌==◌, if◌then◌else◌, List, [], ◌∷◌, ◌++◌}
use Rattle.gedcom_line.specs.Words.{is_end}

-- the pieces that a terminator ends, in order, and what stands after the last terminator
pub record Pieces : Type 0 where
  pub ended : List (List ℕ)
  pub open_ : List ℕ

-- one more character in front
abbrev pub onto_first : ℕ → List (List ℕ) → List ℕ → Pieces
onto_first b [] rest = record { ended = []; open_ = b ∷ rest }
onto_first b (p ∷ ps) rest = record { ended = (b ∷ p) ∷ ps; open_ = rest }

-- the pieces of bytes, put together from the last byte: a line end stands after a new first piece, and any other
-- character goes to the front of the first
unfoldable pub pieces : List ℕ → Pieces
pieces [] = record { ended = []; open_ = [] }
pieces (b ∷ bs) =
    if is_end b then record { ended = [] ∷ (pieces bs).ended; open_ = (pieces bs).open_ }
    else onto_first b (pieces bs).ended (pieces bs).open_

-- the bytes are the first piece, the terminator that ends it, and the rest
pub record IsCut (bytes piece rest : List ℕ) : Type 0 where
  pub end : ℕ
  pub ends : is_end end ≡ true
  pub parts : bytes ≡ piece ++ end ∷ rest

-- the bytes without a byte order mark of UTF-8 at their very start
abbrev pub skip_mark : List ℕ → List ℕ
skip_mark [] = []
skip_mark (a ∷ []) = a ∷ []
skip_mark (a ∷ b ∷ []) = a ∷ b ∷ []
skip_mark (a ∷ b ∷ c ∷ bs) = if a == 239 && b == 187 && c == 191 then bs else a ∷ b ∷ c ∷ bs

-- bytes without that mark where they begin a file
abbrev pub from_start : Bool → List ℕ → List ℕ
from_start true b = skip_mark b
from_start false b = b

-- the pieces of a file
abbrev pub file_pieces : List ℕ → Pieces
file_pieces b = pieces (skip_mark b)

-- all of them: a last piece without a terminator counts
abbrev pub all_pieces : List ℕ → List (List ℕ)
all_pieces b = (file_pieces b).ended ++ (file_pieces b).open_ ∷ []
