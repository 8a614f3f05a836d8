-- What changes make of what an archive holds.
use Rattle.std.specs.Prelude.{ℕ, List, [], ◌∷◌, Option, Some, None, option_map, true}
use Rattle.std.specs.FinMap.{get, insert, remove}
use Rattle.archive_state.specs.Changes.{Changes}
use Rattle.archive_state.specs.Content.{Content, Records, Receipts, Slips}
use Rattle.archive_state.specs.Slips.{Slip}
use Rattle.archive_state.specs.declared.changes.Numbered.{Numbered}
use Rattle.archive_state.specs.declared.changes.Kept.{Kept}
use Rattle.archive_state.specs.declared.changes.SlipChange.{SlipChange}
use Rattle.archive_state.specs.declared.changes.SlipChange.TheVariants as change

-- each number gets its record
abbrev pub with_puts : Records → List Numbered → Records
with_puts m [] = m
with_puts m (put ∷ puts) = with_puts (insert m put.number put.«record») puts

-- the records of these numbers are removed
abbrev pub without : Records → List ℕ → Records
without m [] = m
without m (n ∷ ns) = without (remove m n) ns

abbrev pub with_kept : Receipts → Option Kept → Receipts
with_kept m None = m
with_kept m (Some kept) = insert m kept.token kept.receipt

-- the slip, undone for good
abbrev pub as_undone : Slip → Slip
as_undone slip = record slip { is_undone = true }

-- a slip stands at the number, where there is one to put
abbrev pub put_if : Slips → ℕ → Option Slip → Slips
put_if m n None = m
put_if m n (Some slip) = insert m n slip

abbrev pub with_slip : Slips → Option SlipChange → Slips
with_slip m None = m
with_slip m (Some (change.Made n slip)) = insert m n slip
with_slip m (Some (change.Undone n)) = put_if m n (option_map as_undone (get m n))

-- what is there when all but the puts are made
abbrev pub finished : Content → Changes → Content
finished c changes = record {
  records = without c.records changes.removals;
  next = changes.next;
  receipts = with_kept c.receipts changes.kept;
  slips = with_slip c.slips changes.slip;
}

-- what is there when the numbers have got their records
abbrev pub with_all : Content → List Numbered → Content
with_all c puts = record c { records = with_puts c.records puts }

-- what is there when the changes are made
abbrev pub applied : Content → Changes → Content
applied c changes = finished (with_all c changes.puts) changes
