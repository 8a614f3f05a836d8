-- The lines that were gone over are after those of before.
use Rattle.std.proofs.Common.{◌≡◌, ◌++◌}
use Rattle.store_tables.specs.Reading.{lines_in_pack}
use Rattle.store_tables.proofs.sides.add_lines.Given as goal

abbrev pub invariant-lines : goal.invariant-lines
invariant-lines l = l.found.items ≡ l.fn.found.items ++ lines_in_pack (l.slip, (l.is_new, (l.number, l.yielded)))
