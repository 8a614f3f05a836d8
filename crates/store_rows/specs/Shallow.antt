-- Changes whose records are all shallow, as those of a program are by their type: so what is written of them can be
-- read again.
use Rattle.std.specs.Prelude.{Option, Some, None}
use Rattle.records.specs.Shallow.{IsShallow}
use Rattle.archive_state.specs.Changes.{Changes}
use Rattle.record_shapes.specs.Lists.{EachOf}
use Rattle.archive_state.specs.declared.changes.Numbered.{Numbered}
use Rattle.archive_state.specs.declared.changes.SlipChange.{SlipChange}
use Rattle.archive_state.specs.declared.changes.SlipChange.TheVariants as change
use Rattle.archive_state.specs.declared.slip.Change.{Change}
use Rattle.store_rows.specs.Meaning.{IsShallowOption, IsShallowSlip}

abbrev pub IsShallowPut : Numbered → Type 0
IsShallowPut p = IsShallow p.«record»

abbrev pub IsShallowChange : Change → Type 0
IsShallowChange c = IsShallow c.old × IsShallowOption c.new

abbrev pub IsShallowSlipChange : Option SlipChange → Type 0
IsShallowSlipChange None = Unit {0}
IsShallowSlipChange (Some (change.Made n slip)) = IsShallowSlip slip
IsShallowSlipChange (Some (change.Undone n)) = Unit {0}

pub record AreShallowChanges (changes : Changes) : Type 0 where
  pub puts : EachOf IsShallowPut changes.puts
  pub slip : IsShallowSlipChange changes.slip
