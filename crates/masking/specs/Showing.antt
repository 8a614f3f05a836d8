-- How the masked state is made of sets of numbers, a record at a time.
use Rattle.std.specs.Prelude.{ℕ, ◌≡◌, Option, Some, None}
use Rattle.std.specs.BTreeSet.{BTreeSet}
use Rattle.std.specs.FinMap.{get, insert}
use Rattle.record_kinds.specs.declared.record.Record.{Record}
use Rattle.archive_state.specs.Content.{Content, Records}
use Rattle.masking.specs.Masking.{shown_at}
use Rattle.masking.specs.Judged.{tests_of}

-- what is shown of a record at a number
abbrev pub shown_record : Records → BTreeSet ℕ → BTreeSet ℕ → ℕ → Record → Option Record
shown_record m living open_entries n r = shown_at (tests_of living open_entries) (get m) n (Some r)

-- what is shown at a number
abbrev pub shown_there : Records → BTreeSet ℕ → BTreeSet ℕ → ℕ → Option Record
shown_there m living open_entries n = shown_at (tests_of living open_entries) (get m) n (get m n)

-- these records are what is shown at each number
abbrev pub Shows : Records → BTreeSet ℕ → BTreeSet ℕ → Records → Type 0
Shows m living open_entries masked = (n : ℕ) → get masked n ≡ shown_there m living open_entries n

-- the record stands at the number, where there is one
abbrev pub put_if : Records → ℕ → Option Record → Records
put_if m n None = m
put_if m n (Some r) = insert m n r

abbrev pub with_shown : Content → ℕ → Option Record → Content
with_shown c n o = record c { records = put_if c.records n o }
