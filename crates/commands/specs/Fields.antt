-- Words of a request that are texts of the archive: a rule of our own.
use Rattle.std.specs.Prelude.{ℕ, Bool, not, ◌&&◌, ◌==◌, nat_le, List, length, Option, Some, None, if◌then◌else◌}
use Rattle.std.specs.List.{list_any}

-- words, which are UTF-8, are a text where they are without U+0000 and CR, and of at most 1,048,576 bytes
abbrev pub is_text : List ℕ → Bool
is_text words = not (list_any (λ b. b == 0) words) &&
    (not (list_any (λ b. b == 13) words) && nat_le (length words) 1048576)

-- the text that they are
abbrev pub text_of : List ℕ → Option (List ℕ)
text_of words = if is_text words then Some words else None
