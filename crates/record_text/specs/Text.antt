-- Texts and tags, by their bytes. What a text is, is a rule of our own; a tag is that of The GEDCOM Standard Release
-- 5.5.1, chapter 1.
use Rattle.std.specs.Prelude.{◌≡◌, ℕ, ◌<◌, ◌≤◌, Bool, true, false, ◌||◌, ◌&&◌, ◌==◌, nat_le, List, length}
use Rattle.std.specs.List.{list_all, list_any}
use Rattle.std.specs.Str.{IsUtf8}

-- UTF-8 without U+0000 and CR, of at most 1,048,576 bytes
pub record IsText (bytes : List ℕ) : Type 0 where
  pub utf8 : IsUtf8 bytes
  pub no_nul : list_any (λ b. b == 0) bytes ≡ false
  pub no_cr : list_any (λ b. b == 13) bytes ≡ false
  pub short : length bytes ≤ 1048576

-- the same of what is UTF-8 already
pub record IsPlain (bytes : List ℕ) : Type 0 where
  pub no_nul : list_any (λ b. b == 0) bytes ≡ false
  pub no_cr : list_any (λ b. b == 13) bytes ≡ false
  pub short : length bytes ≤ 1048576

-- an ASCII letter, a digit or an underscore
abbrev pub is_word : ℕ → Bool
is_word b = (nat_le 48 b && nat_le b 57) || (nat_le 65 b && nat_le b 90) || b == 95 || (nat_le 97 b && nat_le b 122)

-- 1 to 31 ASCII letters, digits and underscores
pub record IsTag (bytes : List ℕ) : Type 0 where
  pub some : 0 < length bytes
  pub short : length bytes ≤ 31
  pub words : list_all is_word bytes ≡ true
