-- The least and the greatest of a set of days.
use Rattle.std.specs.Prelude.{ℤ, ◌<ℤ◌, ◌≤ℤ◌, Option, Some, None}

-- lo is the least of the days; None: below each number there is one
abbrev pub IsLeast : (ℤ → Type 0) → Option ℤ → Type 0
IsLeast Day (Some lo) = Day lo × ((day : ℤ) → Day day → lo ≤ℤ day)
IsLeast Day None = (n : ℤ) → (day : ℤ) × Day day × (day <ℤ n)

-- hi is the greatest of the days; None: above each number there is one
abbrev pub IsGreatest : (ℤ → Type 0) → Option ℤ → Type 0
IsGreatest Day (Some hi) = Day hi × ((day : ℤ) → Day day → day ≤ℤ hi)
IsGreatest Day None = (n : ℤ) → (day : ℤ) × Day day × (n <ℤ day)
