use Rattle.std.proofs.Common.{◌≡◌, map, string_bytes, take}
use Rattle.put_back.proofs.row.row_of.Given as goal

abbrev pub invariant-each : goal.invariant-each
invariant-each l = map string_bytes l.cells.items ≡ map (λ c. c.now) (take l.text-index l.texts)
