use Rattle.std.proofs.Common.{◌≡◌, ◌++◌, take, string_bytes}
use Rattle.std.specs.FinMap as map
use Rattle.std.specs.List.{flat_map}
use Rattle.sheets.specs.Sheets as sheets
use Rattle.sheets.proofs.registers.push_entries.Given as goal

abbrev pub invariant-numbers : goal.invariant-numbers
invariant-numbers l =
    string_bytes l.out
    ≡ string_bytes l.fn.out ++ flat_map
    (λ k. sheets.entry_in l.source (map.get l.state.records k))
    (take l.number-index l.numbers)
