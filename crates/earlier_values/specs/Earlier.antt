-- The values of before: the text of a record, and which records changes overwrite. Rules of our own.
use Rattle.std.specs.Prelude.{ℕ, List, [], ◌∷◌, ◌++◌, Option, Some, None, map}
use Rattle.std.specs.FinMap.{get}
use Rattle.std.specs.List.{flat_map}
use Rattle.packed_rows.specs.Packed.{HaveText, lines_text}
use Rattle.record_kinds.specs.declared.record.Record.{Record}
use Rattle.records.specs.Shallow.{IsShallow}
use Rattle.records.specs.Stored.{stored}
use Rattle.archive_state.specs.Changes.{Changes}
use Rattle.archive_state.specs.Content.{Records}
use Rattle.archive_state.specs.declared.changes.Numbered.{Numbered}

-- all lines that a record is stored as, each with LF after it
abbrev pub past : Record → List ℕ
past r = lines_text (stored r)

-- the text is that of a record that a program can have, whose lines can be read again
abbrev pub IsPastOf : Record → List ℕ → Type 0
IsPastOf r text = HaveText text (stored r) × IsShallow r

-- ---- what stands at numbers
abbrev pub found_at : ℕ → Option Record → List Numbered
found_at n None = []
found_at n (Some r) = record { number = n; «record» = r } ∷ []

abbrev pub standing_at : Records → ℕ → List Numbered
standing_at m n = found_at n (get m n)

abbrev pub standing : Records → List ℕ → List Numbered
standing m ns = flat_map (standing_at m) ns

-- what stands where other records are put
abbrev pub replaced : Records → List Numbered → List Numbered
replaced m puts = flat_map (λ (p : Numbered). standing_at m p.number) puts

-- what changes overwrite, and then what they remove
abbrev pub earlier : Records → Changes → List Numbered
earlier m changes = replaced m changes.puts ++ standing m changes.removals
