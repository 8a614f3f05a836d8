use Rattle.std.proofs.Common.{◌≡◌, ◌++◌, take}
use Rattle.sheets.specs.Gathered.{gathered}
use Rattle.html_lists.specs.Indexed.{named}
use Rattle.html_lists.proofs.naming.add_all.Given as goal

abbrev pub invariant-all : goal.invariant-all
invariant-all l =
    l.index ≡ l.fn.index ++ named (gathered l.library.records) (take l.number-index l.numbers)
