use Rattle.std.proofs.Common.{◌≡◌, map, take}
use Rattle.std.specs.List.{flat_map}
use Rattle.staged_rows.specs.Staging.{sought_row}
use Rattle.staging.specs.Opened.{row_of_sought_row}
use Rattle.staging.proofs.looked_for.soughts_of_puts.Given as goal

abbrev pub invariant-puts : goal.invariant-puts
invariant-puts l = map row_of_sought_row l.found.items ≡ flat_map sought_row (take l.put-index l.puts)
