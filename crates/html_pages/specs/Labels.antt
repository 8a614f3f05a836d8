-- The words that pages have whatever the records are: rules of our own.
use Rattle.std.specs.Prelude.{ℕ, List, codes}
use Rattle.html_pages.specs.declared.label.Label.{Label}
use Rattle.html_pages.specs.declared.label.Label.TheVariants as label

unfoldable pub label_word : Label → List ℕ
label_word label.Child = codes "Child: "
label_word label.Children = codes "Children"
label_word label.Entries = codes "Register entries"
label_word label.Events = codes "Events"
label_word label.Family = codes "Family "
label_word label.Names = codes "Names"
label_word label.OwnFamilies = codes "Partners and children"
label_word label.Parents = codes "Parents and siblings"
label_word label.Partners = codes "Partners"
label_word label.Pedigree = codes "Pedigree"
label_word label.Person = codes "Person "
label_word label.Sources = codes "Sources"
