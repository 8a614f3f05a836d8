-- What holds of the values of before.
use Rattle.std.specs.Prelude.{ℕ, ◌≡◌, ◌≢◌, ◌⊎◌, ◌==◌, List, [], map, true, Some}
use Rattle.std.specs.FinMap.{get}
use Rattle.std.specs.List.{list_any}
use Rattle.packed_rows.specs.Packed.{HaveText}
use Rattle.record_kinds.specs.declared.record.Record.{Record}
use Rattle.record_shapes.specs.Lists.{Ascends, EachOf}
use Rattle.records.specs.Stored.{stored}
use Rattle.archive_state.specs.Applied.{applied}
use Rattle.archive_state.specs.Changes.{Changes}
use Rattle.archive_state.specs.Content.{Content, Records}
use Rattle.archive_state.specs.Sound.{IsSound}
use Rattle.archive_state.specs.declared.changes.Numbered.{Numbered}
use Rattle.command_checks.specs.Exact.{IsExact}
use Rattle.earlier_values.specs.Earlier.{earlier}

-- a text is that of one record at the most
abbrev pub BelongToOneRecord : Type 0
BelongToOneRecord = (text : List ℕ) (r s : Record) → HaveText text (stored r) → HaveText text (stored s) → r ≡ s

-- the record stood at its number before, and does not stand there after
abbrev pub IsOverwritten : Records → Records → Numbered → Type 0
IsOverwritten before after row =
    (get before row.number ≡ Some row.«record») × (get after row.number ≢ Some row.«record»)

-- the rows are all records that are overwritten or removed, by number
pub record AreOverwritten (before after : Records) (rows : List Numbered) : Type 0 where
  pub ascending : Ascends (map (λ (row : Numbered). row.number) rows)
  pub each : EachOf (IsOverwritten before after) rows
  pub all : (n : ℕ) (r : Record) → get before n ≡ Some r → get after n ≢ Some r
      → list_any (λ (row : Numbered). row.number == n) rows ≡ true

abbrev pub AreAllOverwritten : Type 0
AreAllOverwritten = (c : Content) (changes : Changes) → IsSound c → IsExact c changes
    → (changes.puts ≡ []) ⊎ (changes.removals ≡ [])
    → AreOverwritten c.records (applied c changes).records (earlier c.records changes)
