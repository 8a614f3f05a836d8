use Rattle.std.proofs.Common.{◌≡◌, ◌++◌, take, string_bytes}
use Rattle.std.specs.FinMap as map
use Rattle.std.specs.List.{flat_map}
use Rattle.sheets.specs.Called.{line_in}
use Rattle.sheets.proofs.pages.push_persons.Given as goal

abbrev pub invariant-numbers : goal.invariant-numbers
invariant-numbers l =
    string_bytes l.out
    ≡ string_bytes l.fn.out ++ flat_map (λ n. line_in n (map.get l.state.records n)) (take l.number-index l.numbers)
