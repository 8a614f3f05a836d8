-- Values of before: which requests keep them, and what a request leaves of them among the rows. Rules of our own.
use Rattle.std.specs.Prelude.{Bool, ◌≡◌, ◌==◌, true, false, List, [], map, if◌then◌else◌}
use Rattle.std.specs.List.{list_any}
use Rattle.archive_core.specs.declared.request.Request.{Request}
use Rattle.archive_state.specs.Changes.{Changes}
use Rattle.archive_state.specs.Content.{Content, Records}
use Rattle.archive_state.specs.declared.changes.Numbered.{Numbered}
use Rattle.commands.specs.declared.command.Command.{Command}
use Rattle.commands.specs.declared.command.Command.TheVariants as command
use Rattle.commands.specs.declared.row_command.RowCommand.{RowCommand}
use Rattle.commands.specs.declared.row_command.RowCommand.TheVariants as row_command
use Rattle.earlier_values.specs.Earlier.{earlier}
use Rattle.earlier_values.specs.Laws.{IsOverwritten}
use Rattle.record_shapes.specs.Lists.{EachOf, IsOnce}
use Rattle.store_rows.specs.Pasts.{HasMorePasts, IsPastRow}
use Rattle.store_tables.specs.Conversion.{EachWith}
use Rattle.store_tables.specs.Rows.{PastRow, Rows}

-- a row by which something is put right, or taken away. A merge has its slip, and is undone by it
abbrev pub mends : RowCommand → Bool
mends (row_command.Sex person sex) = true
mends (row_command.Amend event value date place) = true
mends (row_command.Link entry mention person reason) = true
mends (row_command.Unlink entry mention) = true
mends (row_command.Remove number) = true
mends (row_command.Unpartner family person) = true
mends (row_command.Unchild family person) = true
mends (row_command.Unparticipant event place) = true
mends (row_command.Correct number given) = true
mends _ = false

-- the commands that keep the values of before
abbrev pub keeps_past : Command → Bool
keeps_past (command.Row row) = mends row
keeps_past _ = false

-- what is kept of what stands before changes are made
abbrev pub kept_values : Content → Command → Changes → List Numbered
kept_values c k changes = if keeps_past k then earlier c.records changes else []

-- these are all records that stood at their numbers before, and stand there no more; each is there once
pub record AreValuesOfBefore (before after : Records) (values : List Numbered) : Type 0 where
  pub once : IsOnce (map (λ (v : Numbered). v.number) values)
  pub each : EachOf (IsOverwritten before after) values
  pub all : (v : Numbered) → IsOverwritten before after v
      → list_any (λ (w : Numbered). w.number == v.number) values ≡ true

-- the values that a request overwrites, where its command keeps them; of others none
abbrev pub AreKept : Bool → Content → Content → List Numbered → Type 0
AreKept true c after values = AreValuesOfBefore c.records after.records values
AreKept false c after values = values ≡ []

-- a request leaves all rows of values of before as they were, and adds one for each value that it overwrites, under its
-- token
abbrev pub AddsValues : Content → Request → Content → Rows → Rows → Type 0
AddsValues c r after rows now = (values : List Numbered) × AreKept (keeps_past r.command) c after values
    × (more : List PastRow) × EachWith (IsPastRow r.token) values more × HasMorePasts rows now more
