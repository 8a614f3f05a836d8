-- Room for records that are put: a blank record wherever there is none. No clause that callers see names these
-- definitions.
use Rattle.std.specs.Prelude.{ℕ, List, [], ◌∷◌, None, is_some, if◌then◌else◌}
use Rattle.std.specs.FinMap.{get, insert}
use Rattle.record_kinds.specs.declared.record.Record.{Record}
use Rattle.record_kinds.specs.declared.record.Record.TheVariants as kind
use Rattle.archive_state.specs.Content.{Records}
use Rattle.archive_state.specs.declared.changes.Numbered.{Numbered}

-- a person of whom nothing is said
abbrev pub blank : Record
blank = kind.Person (record { names = []; sex = None; carried = [] })

-- a blank record at a number that has none
abbrev pub with_blank : Records → ℕ → Records
with_blank m n = if is_some (get m n) then m else insert m n blank

-- the same at each number that is put
abbrev pub with_room : Records → List Numbered → Records
with_room m [] = m
with_room m (put ∷ puts) = with_room (with_blank m put.number) puts
