-- What the changes of a request make of the rows, as one statement after the other does it.
use Rattle.std.specs.Prelude.{ℕ, true, false, List, [], ◌∷◌, flat_map, Option, Some, None, codes}
use Rattle.record_kinds.specs.declared.record.Record.{Record}
use Rattle.record_kinds.specs.declared.record.Record.TheVariants as kind
use Rattle.records.specs.Stored.{stored}
use Rattle.archive_state.specs.Changes.{Changes}
use Rattle.archive_state.specs.Slips.{Slip}
use Rattle.archive_state.specs.declared.changes.Numbered.{Numbered}
use Rattle.archive_state.specs.declared.changes.Kept.{Kept}
use Rattle.archive_state.specs.declared.changes.SlipChange.{SlipChange}
use Rattle.archive_state.specs.declared.changes.SlipChange.TheVariants as change
use Rattle.archive_state.specs.declared.slip.Change.{Change}
use Rattle.store_tables.specs.Rows.{
  Rows,
  with_next,
  with_record_row,
  without_record_row,
  without_lines,
  with_changed_lines,
  with_receipt,
  with_slip_row,
  with_undone,
  SlipSide,
}
use Rattle.store_tables.specs.Sides.{with_slip_sides}

-- the word of a kind
abbrev pub kind_word : Record → List ℕ
kind_word (kind.Place _) = codes "place"
kind_word (kind.Repo _) = codes "repo"
kind_word (kind.Source _) = codes "source"
kind_word (kind.Person _) = codes "person"
kind_word (kind.Family _) = codes "family"
kind_word (kind.Citation _) = codes "citation"
kind_word (kind.Event _) = codes "event"
kind_word (kind.Entry _) = codes "entry"
kind_word (kind.Other _) = codes "other"

-- a row in `record` for each number, in the batch of commands; before any line, since a line may name any of them
abbrev pub with_record_rows : List Numbered → Rows → Rows
with_record_rows [] rows = rows
with_record_rows (p ∷ ps) rows = with_record_rows ps (with_record_row p.number (kind_word p.«record») 0 rows)

-- each number's lines, in place of those that it had
abbrev pub with_all_lines : List Numbered → Rows → Rows
with_all_lines [] rows = rows
with_all_lines (p ∷ ps) rows = with_all_lines ps (with_changed_lines p.number (stored p.«record») rows)

-- the lines of all these numbers are removed, and then their rows in `record`
abbrev pub without_all_lines : List ℕ → Rows → Rows
without_all_lines [] rows = rows
without_all_lines (n ∷ ns) rows = without_all_lines ns (without_lines n rows)

abbrev pub without_record_rows : List ℕ → Rows → Rows
without_record_rows [] rows = rows
without_record_rows (n ∷ ns) rows = without_record_rows ns (without_record_row n rows)

abbrev pub without_records : List ℕ → Rows → Rows
without_records ns rows = without_record_rows ns (without_all_lines ns rows)

abbrev pub with_puts_written : List Numbered → Rows → Rows
with_puts_written ps rows = with_all_lines ps (with_record_rows ps rows)

abbrev pub with_kept_written : Option Kept → Rows → Rows
with_kept_written None rows = rows
with_kept_written (Some kept) rows = with_receipt kept.token kept.receipt rows

-- the sides of a change, each with what is stored of its record: the old one, and then the new one, where there is one
abbrev pub new_sides_stored : ℕ → Option Record → List SlipSide
new_sides_stored n None = []
new_sides_stored n (Some r) = (true, (n, stored r)) ∷ []

abbrev pub sides_stored : Change → List SlipSide
sides_stored c = (false, (c.number, stored c.old)) ∷ new_sides_stored c.number c.new

-- a slip's row, and the sides of its changes in place of those that its number had
abbrev pub with_slip_made : ℕ → Slip → Rows → Rows
with_slip_made n slip rows = with_slip_sides n (flat_map sides_stored slip.changes)
    (with_slip_row n slip.keep slip.gone slip.is_undone rows)

abbrev pub with_slip_written : Option SlipChange → Rows → Rows
with_slip_written None rows = rows
with_slip_written (Some (change.Made n slip)) rows = with_slip_made n slip rows
with_slip_written (Some (change.Undone n)) rows = with_undone n rows

-- all changes of a request
abbrev pub with_changes : Changes → Rows → Rows
with_changes changes rows = with_slip_written changes.slip (with_kept_written changes.kept (with_next changes.next
    (without_records changes.removals (with_puts_written changes.puts rows))))
