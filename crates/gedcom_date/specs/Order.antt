-- Two dates in order.
use Rattle.std.specs.Prelude.{ℤ, ◌<ℤ◌}
use Rattle.calendar_days.specs.Told.{Told}
use Rattle.calendar_days.specs.Within.{IsIn}

-- not every day of the first lies after every day of the last
abbrev pub IsOrdered : Told → Told → Type 0
IsOrdered first last = ¬ ((a b : ℤ) → IsIn first a → IsIn last b → b <ℤ a)
