-- Whether two persons can be merged, at one number.
use Rattle.std.specs.Prelude.{ℕ, ◌≡◌, false, Some}
use Rattle.std.specs.FinMap.{get}
use Rattle.record_kinds.specs.declared.record.Record.{Record}
use Rattle.archive_state.specs.Content.{Records}
use Rattle.archive_state.specs.Merging.{clashes}

-- what stands there is no family of both, but with both as its children
abbrev pub IsJoinableAt : Records → ℕ → ℕ → ℕ → Type 0
IsJoinableAt m keep gone n = (r : Record) → get m n ≡ Some r → clashes keep gone r ≡ false
