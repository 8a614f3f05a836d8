-- Names of persons: the surname stands between slashes (The GEDCOM Standard Release 5.5.1, chapter 2,
-- NAME_PERSONAL). How a name is displayed and compared is a rule of our own.
use Rattle.std.specs.Prelude.{ℕ, Bool, ◌==◌, List, [], ◌∷◌, chars, encode_utf8_all}
use Rattle.std.specs.List.{slice_split, join_with_byte}
use Rattle.caseless.specs.Caseless.{default_case_fold}
use Rattle.record_text.specs.Words.{words, replaced}

abbrev pub is_slash : ℕ → Bool
is_slash b = b == 47

-- the second of three parts or more; nothing of fewer
abbrev pub enclosed : List (List ℕ) → List ℕ
enclosed [] = []
enclosed (front ∷ []) = []
enclosed (front ∷ found ∷ []) = []
enclosed (front ∷ found ∷ back ∷ more) = found

-- what stands between the first slash of a name and the next one; nothing without both
unfoldable pub surname_of : List ℕ → List ℕ
surname_of name = enclosed (slice_split is_slash name)

-- the key of a surname: its default case folding
abbrev pub key_of : List ℕ → List ℕ
key_of surname = encode_utf8_all (default_case_fold (chars surname))

-- slashes removed, and each LF made a space
abbrev pub plain : List ℕ → List ℕ
plain name = replaced 10 (32 ∷ []) (replaced 47 [] name)

-- the words of a name, slashes removed and each LF made a space, with one space between and none at the ends
abbrev pub displayed : List ℕ → List ℕ
displayed name = join_with_byte 32 (words (plain name))
