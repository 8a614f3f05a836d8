-- What the type of a request keeps of its words and its nodes. A rule of our own, from what a `String` can hold.
use Rattle.commands.specs.declared.command.Command.{Command}
use Rattle.commands.specs.declared.command.Command.TheVariants as command
use Rattle.archive_steps.specs.Words.{IsUtf8Row}
use Rattle.gedcom_tree.specs.Text.{IsForest}
use Rattle.entry_batches.specs.Words.{AreUtf8Entries}

-- the words of a command are what a `String` can hold; the nodes of an import are a forest, and so are its texts
abbrev pub HasUtf8Words : Command → Type 0
HasUtf8Words (command.Row row) = IsUtf8Row row
HasUtf8Words (command.Entries source rows) = AreUtf8Entries rows
HasUtf8Words (command.Import forest) = IsForest forest
