use Rattle.std.proofs.Common.{◌≡◌, ◌++◌}
use Rattle.std.specs.Prelude.{map, None}
use Rattle.std.specs.Map.{values_of}
use Rattle.sheets.specs.Gathered.{gathered}
use Rattle.html_lists.specs.Letters.{after_parts, text_entry, texts}
use Rattle.html_lists.proofs.letters.push_all.Given as goal

abbrev pub invariant-all : goal.invariant-all
invariant-all l =
    l.out ++ after_parts (gathered l.library.records) l.last (values_of (map text_entry l.surname-iterator))
    ≡ l.fn.out ++ after_parts (gathered l.library.records) None (values_of (texts l.found))
