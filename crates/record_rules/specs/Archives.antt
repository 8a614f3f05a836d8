-- Archives written by hand: lists of what stands at which number.
use Rattle.std.specs.Prelude.{ℕ, List, map, Option}
use Rattle.std.specs.FinMap.{empty, find, from_entries}
use Rattle.std.specs.Ordering.{nat_cmp}
use Rattle.record_kinds.specs.declared.record.Record.{Record}
use Rattle.archive_state.specs.declared.slip.Change.{Change}
use Rattle.archive_state.specs.Content.{Content}
use Rattle.archive_state.specs.Slips.{Slip}

-- records and slips with their numbers, and the next number
pub record Archive : Type 0 where
  pub records : List (ℕ × Record)
  pub next : ℕ
  pub slips : List (ℕ × Slip)

-- what such an archive holds
abbrev pub content : Archive → Content
content a = record { records = from_entries a.records; next = a.next; receipts = empty; slips = from_entries a.slips }

-- what stands at a number: the first that is listed there
abbrev pub at : {X : Type 0} → List (ℕ × X) → ℕ → Option X
at es n = find nat_cmp n es

-- the records of before, of a slip
abbrev pub olds : Slip → List (ℕ × Record)
olds s = map (λ (c : Change). (c.number, c.old)) s.changes
