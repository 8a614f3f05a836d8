-- What is between the commas of a text.
use Rattle.std.specs.Prelude.{ℕ, ◌<◌, ◌≢◌, ◌==◌, ◌&&◌, not, Bool, List, length}
use Rattle.std.specs.List.{slice_index}

-- the byte is not in it
abbrev pub Without : ℕ → List ℕ → Type 0
Without c xs = (i : ℕ) → i < length xs → slice_index xs i ≢ c

-- neither comma nor space
abbrev pub is_written : ℕ → Bool
is_written b = not (b == 44) && not (b == 32)
