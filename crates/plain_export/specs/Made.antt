-- How the plain archive is made, a record at a time, where it is known what is added to each record.
use Rattle.std.specs.Prelude.{ℕ, ◌≡◌, List, Option, Some, None}
use Rattle.std.specs.FinMap.{get, insert}
use Rattle.record_kinds.specs.declared.record.Record.{Record}
use Rattle.record_shapes.specs.Shapes.{Around}
use Rattle.archive_state.specs.Content.{Records}
use Rattle.plain_export.specs.Added.{lines_of}
use Rattle.plain_export.specs.Plain.{plain_at}
use Rattle.plain_export.specs.declared.added.Added.{Added}

-- what stands at a number
abbrev pub made_at : Records → Around → List Added → ℕ → Option Record
made_at m a xs n = plain_at m a (lines_of n xs) (get m n)

-- that stands at each number
abbrev pub AreMade : Records → Around → List Added → Records → Type 0
AreMade m a xs plain = (n : ℕ) → get plain n ≡ made_at m a xs n

-- the record stands at the number, where there is one
abbrev pub put_if : Records → ℕ → Option Record → Records
put_if m n None = m
put_if m n (Some r) = insert m n r
