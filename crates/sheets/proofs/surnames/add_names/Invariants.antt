use Rattle.std.proofs.Common.{◌≡◌, ℕ, List, cond, take}
use Rattle.std.specs.List.{list_any}
use Rattle.sheet_lines.specs.Numbers.{under, with_last}
use Rattle.sheets.specs.Pages.{has_key}
use Rattle.sheets.proofs.surnames.add_names.Given as goal

abbrev pub invariant-names : goal.invariant-names
invariant-names l = (key : List ℕ) → under l.surnames.numbers key
    ≡ cond (list_any (has_key key) (take l.name-index l.names))
    (with_last l.number (under l.fn.surnames.numbers key)) (under l.fn.surnames.numbers key)
