use Rattle.std.proofs.Common.{◌≡◌, ◌+◌, ◌≤◌, drop, false}
use Rattle.table_pages.specs.Separators.{count}
use Rattle.table_pages.proofs.separators.count.Given as goal

abbrev pub invariant-loop-byte : goal.invariant-loop-byte
invariant-loop-byte l = record {
  so_far : l.n + count l.mark l.quoted (drop l.byte-index l.lines) ≡ count l.mark false l.lines;
  few : l.n ≤ l.byte-index;
}
