use Rattle.std.specs.Vec.Iter.{into_iter_items}
use Rattle.request_csv.proofs.Placing.{Placing}
use Rattle.request_csv.proofs.batch_rows.BatchRows.entries.Given as goal

abbrev pub invariant-rows : goal.invariant-rows
invariant-rows l = Placing l.numbers l.fn.self (into_iter_items l.rows) l.entries.items l.before
