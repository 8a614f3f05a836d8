-- The words that these pages have whatever the records are: rules of our own.
use Rattle.std.specs.Prelude.{ℕ, List, codes}
use Rattle.html_lists.specs.declared.label.Label.{Label}
use Rattle.html_lists.specs.declared.label.Label.TheVariants as label

unfoldable pub label_word : Label → List ℕ
label_word label.Entries = codes ". Entries: "
label_word label.Families = codes "Families: "
label_word label.Found = codes "Found: "
label_word label.Home = codes "Reading room"
label_word label.Persons = codes "Persons: "
label_word label.Register = codes "Register "
label_word label.Registers = codes "Registers"
label_word label.Search = codes "Search"
label_word label.Sources = codes "Registers: "
label_word label.Surnames = codes "Surnames"
