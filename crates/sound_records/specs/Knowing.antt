-- What is known of the records of a state, by the paths of places that were found before.
use Rattle.std.specs.Prelude.{ℕ, ◌≡◌, ◌==◌, nat_lt, true, List, Some, None, if◌then◌else◌}
use Rattle.std.specs.List.{list_any}
use Rattle.std.specs.FinMap.{FinMap, get}
use Rattle.std.specs.Ordering.{nat_cmp}
use Rattle.record_kinds.specs.declared.record.Record.{Record}
use Rattle.record_shapes.specs.Forms.{Known}
use Rattle.record_shapes.specs.Paths.{IsWithinLimits}
use Rattle.archive_state.specs.Content.{Records}
use Rattle.archive_state.specs.Known.{path_of, tag_at}
use Rattle.archive_state.specs.Paths.{HasPath}

-- from the numbers of places to their paths
abbrev pub PathMap : Type 0
PathMap = FinMap nat_cmp (List ℕ)

-- the numbers of all records are among these
abbrev pub HasAll : List ℕ → Records → Type 0
HasAll ns m = (n : ℕ) (r : Record) → get m n ≡ Some r → list_any (λ k. k == n) ns ≡ true

-- the paths of all places were found, and nothing else
abbrev pub KnowsPaths : Records → PathMap → Type 0
KnowsPaths m paths = (n : ℕ) → get paths n ≡ path_of m n

-- the path of each place is within the limits
abbrev pub AreWithin : Records → Type 0
AreWithin m = (n : ℕ) (path : List ℕ) → HasPath m n path → IsWithinLimits path

-- that of this one is not
abbrev pub IsTooLong : Records → ℕ → Type 0
IsTooLong m n = (path : List ℕ) × HasPath m n path × ¬ (IsWithinLimits path)

-- what lines can know of records
abbrev pub known_by : Records → PathMap → Known
known_by m paths = record { tag = λ n. tag_at (get m n); path = λ n. get paths n }

-- the same, only with the paths of the places before a number
abbrev pub known_by_before : Records → PathMap → ℕ → Known
known_by_before m paths k = record {
  tag = λ n. tag_at (get m n);
  path = λ n. if nat_lt n k then get paths n else None;
}
