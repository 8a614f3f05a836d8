-- What is between the commas of a text.
use Rattle.std.specs.Prelude.{ℕ, ◌<◌, ◌≢◌, List, length}
use Rattle.std.specs.List.{slice_index}

-- the byte is not in it
abbrev pub Without : ℕ → List ℕ → Type 0
Without c xs = (i : ℕ) → i < length xs → slice_index xs i ≢ c
