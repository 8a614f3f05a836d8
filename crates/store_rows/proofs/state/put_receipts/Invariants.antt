use Rattle.std.proofs.Common.{◌≡◌}
use Rattle.std.specs.Prelude.{fold}
use Rattle.store_rows.specs.Grouped.{with_kept}
use Rattle.store_rows.proofs.state.put_receipts.Given as goal

abbrev pub invariant-rows : goal.invariant-rows
invariant-rows l = l.state ≡ record l.initial.state { receipts = fold with_kept l.initial.state.receipts l.yielded }
