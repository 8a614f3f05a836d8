use Rattle.std.proofs.Common.{◌≡◌, ℕ, List, take}
use Rattle.std.specs.FinMap as map
use Rattle.sheet_lines.specs.Numbers.{under}
use Rattle.sheet_lines.proofs.Kept.{kept}
use Rattle.sheets.specs.Called.{is_called}
use Rattle.sheets.proofs.surnames.surnames_of.Given as goal

abbrev pub invariant-numbers : goal.invariant-numbers
invariant-numbers l = (key : List ℕ) → under l.surnames.numbers key
    ≡ kept (λ n. is_called key (map.get l.state.records n)) (take l.number-index l.numbers)
