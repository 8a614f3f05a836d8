-- What the type of a batch keeps of its words. A rule of our own, from what a `String` can hold.
use Rattle.std.specs.Prelude.{List}
use Rattle.record_shapes.specs.Lists.{EachOf}
use Rattle.commands.specs.declared.entry_row.EntryRow.{EntryRow}
use Rattle.archive_steps.specs.Words.{IsUtf8Entry}

-- the words of each row are UTF-8, and each has 1 to 100 mentions
abbrev pub AreUtf8Entries : List EntryRow → Type 0
AreUtf8Entries rows = EachOf IsUtf8Entry rows
