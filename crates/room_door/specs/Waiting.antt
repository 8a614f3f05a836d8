-- How long a room waits for visitors.
use Rattle.std.specs.Prelude.{ℕ, ◌==◌, if◌then◌else◌}

-- in nanoseconds: a second if nobody is there, else a tenth of it
abbrev pub wait_of : ℕ → ℕ
wait_of count = if count == 0 then 1000000000 else 100000000
