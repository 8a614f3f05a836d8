-- What the type of a command of one row keeps of its words. A rule of our own, from what a `String` can hold.
use Rattle.std.specs.Str.{IsUtf8}
use Rattle.record_shapes.specs.Lists.{EachOf}
use Rattle.commands.specs.Given.{GivenDate}
use Rattle.commands.specs.Mentions.{IsCount}
use Rattle.commands.specs.Sound.{IsDate, WhereSome}
use Rattle.commands.specs.declared.entry_row.EntryRow.{EntryRow}
use Rattle.commands.specs.declared.entry_row.GivenMention.{GivenMention}
use Rattle.commands.specs.declared.row_command.RowCommand.{RowCommand}
use Rattle.commands.specs.declared.row_command.RowCommand.TheVariants as row_command
use Rattle.place_names.specs.Laws.{IsUtf8Given}

-- the spelling of a date is UTF-8, and the date is as its type keeps it
abbrev pub IsUtf8Date : GivenDate → Type 0
IsUtf8Date given = IsUtf8 given.spelling × IsDate given

-- the name of a mention is UTF-8; its role is one of a few words where it is taken
abbrev pub IsUtf8Mention : GivenMention → Type 0
IsUtf8Mention m = IsUtf8 m.name

-- the words of a register entry are UTF-8, and it has 1 to 100 mentions
abbrev pub IsUtf8Entry : EntryRow → Type 0
IsUtf8Entry e =
    IsUtf8 e.page × IsUtf8 e.text × WhereSome IsUtf8Date e.date × IsCount e.mentions × EachOf IsUtf8Mention e.mentions

-- the words of a row are UTF-8, and so are its dates
abbrev pub IsUtf8Row : RowCommand → Type 0
IsUtf8Row (row_command.Person name sex) = IsUtf8 name
IsUtf8Row (row_command.Name person name) = IsUtf8 name
IsUtf8Row (row_command.Event owner tag value date place) = IsUtf8 tag × IsUtf8 value × WhereSome IsUtf8Date date
IsUtf8Row (row_command.Amend event value date place) = IsUtf8 value × WhereSome IsUtf8Date date
IsUtf8Row (row_command.Participant event person role) = IsUtf8 role
IsUtf8Row (row_command.Place name parent) = IsUtf8 name
IsUtf8Row (row_command.Repo name) = IsUtf8 name
IsUtf8Row (row_command.Source title author publisher repo call_number) = IsUtf8 title × IsUtf8 author × IsUtf8 publisher
    × IsUtf8 call_number
IsUtf8Row (row_command.Citation owner source page quality) = IsUtf8 page
IsUtf8Row (row_command.Entry source entry) = IsUtf8Entry entry
IsUtf8Row (row_command.Link entry mention person reason) = IsUtf8 reason
IsUtf8Row (row_command.Correct number given) = IsUtf8Given given
IsUtf8Row _ = Unit {0}
