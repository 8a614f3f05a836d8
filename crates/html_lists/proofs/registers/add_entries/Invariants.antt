use Rattle.std.proofs.Common.{◌≡◌, ◌++◌, drop}
use Rattle.std.specs.FinMap as map
use Rattle.std.specs.List.{filter}
use Rattle.html_lists.specs.Registers as registers
use Rattle.html_lists.proofs.registers.add_entries.Given as goal

abbrev pub invariant-all : goal.invariant-all
invariant-all l = l.numbers.items ++ filter (λ k. registers.is_of l.source (map.get l.library.records k))
    (drop l.number-index l.all)
    ≡ l.fn.numbers.items ++ filter (λ k. registers.is_of l.source (map.get l.library.records k)) l.all
