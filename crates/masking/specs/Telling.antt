-- What the records of an archive tell of numbers.
use Rattle.std.specs.Prelude.{ℕ, ◌≡◌, Some}
use Rattle.std.specs.FinMap.{get}
use Rattle.record_kinds.specs.declared.record.Record.{Record}
use Rattle.archive_state.specs.Content.{Records}

-- what a record at a number tells of numbers
abbrev pub Telling : Type 1
Telling = ℕ → Record → ℕ → Type 0

-- some record tells it of n
abbrev pub IsTold : Records → Telling → ℕ → Type 0
IsTold m T n = (k : ℕ) × (r : Record) × (get m k ≡ Some r) × T k r n
