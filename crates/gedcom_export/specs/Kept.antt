-- Records that are kept as they are read, number by number.
use Rattle.std.specs.Prelude.{ℕ, List, fold, Option, Some, None}
use Rattle.std.specs.FinMap.{empty, insert}
use Rattle.record_kinds.specs.declared.record.Record.{Record}
use Rattle.archive_state.specs.Content.{Records}

-- with what stands at a number
abbrev pub with_found : ℕ → Option Record → Records → Records
with_found n None m = m
with_found n (Some r) m = insert m n r

-- what stands at these numbers
abbrev pub kept_of : (ℕ → Option Record) → List ℕ → Records
kept_of at = fold (λ m n. with_found n (at n) m) empty
