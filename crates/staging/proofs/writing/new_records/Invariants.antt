-- At each put, the rows are those of the puts before it.
use Rattle.std.proofs.Common.{◌≡◌, map, take}
use Rattle.staging.specs.Opened.{new_record}
use Rattle.staging.proofs.writing.new_records.Given as goal

abbrev pub invariant-puts : goal.invariant-puts
invariant-puts l = l.rows.items ≡ map new_record (take l.put-index l.puts)
