-- What a word of a command line means: a number, the number of a record, a kind, a character set, or what is searched
-- for.
use Rattle.std.specs.Prelude.{
  ◌&&◌,
  ◌==◌,
  ℕ,
  Bool,
  List,
  [],
  ◌∷◌,
  Option,
  Some,
  None,
  true,
  false,
  chars,
  codes,
  is_some,
  nat_le,
  option_map,
  if◌then◌else◌,
}
use Rattle.std.specs.Str.{bytes_eq}
use Rattle.std.specs.Str.Parse.{digits_value, without_leading_plus}
use Rattle.row_references.specs.References.{token_in}
use Rattle.row_references.specs.declared.words.NumberWord.{NumberWord}
use Rattle.row_references.specs.declared.words.NumberWord.TheVariants.{Number, Reference}
use Rattle.searching.specs.Folding.{folded_text}
use Rattle.searching.specs.Words.{words_of}
use Rattle.clap.specs.Words.{Text}
use Rattle.clap.specs.ValueTests.{is_unsigned_in}
use Rattle.command_line.specs.declared.tasks.ListKind.{ListKind}
use Rattle.command_line.specs.declared.tasks.ListKind.TheVariants.{Records, Slips}
use Rattle.command_line.specs.declared.tasks.OrderName.{OrderName}
use Rattle.command_line.specs.declared.tasks.OrderName.TheVariants.{DayFirst, MonthFirst}
use Rattle.command_line.specs.declared.tasks.RecordKind.{RecordKind}
use Rattle.command_line.specs.declared.tasks.RecordKind.TheVariants.{
  Citations,
  Entries,
  Events,
  Families,
  Others,
  Persons,
  Places,
  Repositories,
  Sources,
}
use Rattle.command_line.specs.declared.tasks.SetName.{SetName}
use Rattle.command_line.specs.declared.tasks.SetName.TheVariants.{
  Ansel,
  CodePage437,
  CodePage850,
  Macintosh,
  Utf16Be,
  Utf16Le,
  Utf8,
  Windows1252,
}
use Rattle.command_line.specs.declared.tasks.SheetKind.{SheetKind}
use Rattle.command_line.specs.declared.tasks.SheetKind.TheVariants.{Family, Pedigree, Person, Register}

-- the number of a word, as the grammar reads one: digits, with a plus before them or not; 0 where it is none, or is
-- above the greatest
abbrev pub number_up_to : ℕ → Text → ℕ
number_up_to most word = if is_unsigned_in 0 most word then digits_value 10 (without_leading_plus word) else 0

-- the same of 32 bits
abbrev pub number_of : Text → ℕ
number_of word = number_up_to 4294967295 word

-- the number of a record that is given as such; none: it is 0
abbrev pub plain_number : ℕ → Option NumberWord
plain_number n = if n == 0 then None else Some (Number n)

-- by the token of a reference, or else by a number
abbrev pub number_by : Option (List ℕ) → ℕ → Option NumberWord
number_by None n = plain_number n
number_by (Some token) n = Some (Reference token)

-- the number of a record that a word gives: by `@` and a token, or as a number from 1
abbrev pub number_word : Text → Option NumberWord
number_word word = number_by (token_in word) (number_of word)

abbrev pub is_number : Text → Bool
is_number word = is_some (number_word word)

-- the same as a list, which is empty if the word gives none
abbrev pub listed : Option NumberWord → List NumberWord
listed None = []
listed (Some number) = number ∷ []

abbrev pub numbers_in : Text → List NumberWord
numbers_in word = listed (number_word word)

-- the generations of a pedigree that a word tells: 4 where it is no number from 1 to 12
abbrev pub generations_of : Text → ℕ
generations_of word = let n = number_of word in if nat_le 1 n && nat_le n 12 then n else 4

-- the character set of a word
abbrev pub set_named : Text → Option SetName
set_named word =
    if bytes_eq word (codes "utf-8") then Some Utf8
    else if bytes_eq word (codes "utf-16le") then Some Utf16Le
    else if bytes_eq word (codes "utf-16be") then Some Utf16Be
    else if bytes_eq word (codes "1252") then Some Windows1252
    else if bytes_eq word (codes "437") then Some CodePage437
    else if bytes_eq word (codes "850") then Some CodePage850
    else if bytes_eq word (codes "macintosh") then Some Macintosh
    else if bytes_eq word (codes "ansel") then Some Ansel
    else None

-- the kind of records of a word
abbrev pub records_named : Text → Option RecordKind
records_named word =
    if bytes_eq word (codes "persons") then Some Persons
    else if bytes_eq word (codes "families") then Some Families
    else if bytes_eq word (codes "events") then Some Events
    else if bytes_eq word (codes "places") then Some Places
    else if bytes_eq word (codes "repositories") then Some Repositories
    else if bytes_eq word (codes "sources") then Some Sources
    else if bytes_eq word (codes "citations") then Some Citations
    else if bytes_eq word (codes "entries") then Some Entries
    else if bytes_eq word (codes "others") then Some Others
    else None

-- what a word has listed: slips, or records of a kind
abbrev pub list_named : Text → Option ListKind
list_named word = if bytes_eq word (codes "slips") then Some Slips else option_map Records (records_named word)

-- the order of dates of a word
abbrev pub order_named : Text → Option OrderName
order_named word =
    if bytes_eq word (codes "dmy") then Some DayFirst
    else if bytes_eq word (codes "mdy") then Some MonthFirst
    else None

-- the name of a shell
abbrev pub is_shell : Text → Bool
is_shell word = if bytes_eq word (codes "bash") then true else bytes_eq word (codes "zsh")

-- the words of a search that a word has, and whether it has some
abbrev pub search_words : Text → List Text
search_words word = words_of (folded_text (chars word))

abbrev pub are_some : List Text → Bool
are_some [] = false
are_some (word ∷ words) = true

abbrev pub is_searched : Text → Bool
is_searched word = are_some (search_words word)

-- the word of a kind of sheet
abbrev pub kind_word : SheetKind → Text
kind_word Person = codes "person"
kind_word Family = codes "family"
kind_word Pedigree = codes "pedigree"
kind_word Register = codes "register"

-- the kind of sheet of a word
abbrev pub kind_named : Text → Option SheetKind
kind_named word =
    if bytes_eq word (codes "person") then Some Person
    else if bytes_eq word (codes "family") then Some Family
    else if bytes_eq word (codes "pedigree") then Some Pedigree
    else if bytes_eq word (codes "register") then Some Register
    else None
