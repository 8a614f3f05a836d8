use Rattle.std.proofs.Common.{◌≡◌, ◌++◌, [], drop}
use Rattle.page_entries.specs.Months.{with_months}
use Rattle.page_entries.proofs.months.with_months.Given as goal

abbrev pub invariant-loop-byte : goal.invariant-loop-byte
invariant-loop-byte l = l.out.items ++ with_months l.run.items (drop l.byte-index l.cell) ≡ with_months [] l.cell
