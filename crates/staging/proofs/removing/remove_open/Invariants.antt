-- At each batch, those before it are closed or gone in what is here, and the others are as they were.
use Rattle.std.proofs.Common.{◌≡◌, false, drop}
use Rattle.sqlite.specs.Held.{state}
use Rattle.staging.proofs.Opening.{IsClearing}
use Rattle.staging.proofs.removing.remove_open.Given as goal

abbrev pub invariant-batches : goal.invariant-batches
invariant-batches g l = record {
  ended : l.conn.in_transaction ≡ false;
  way : IsClearing l.has_spans (state g.S.Store l.fn.conn) (state g.S.Store l.conn) (drop l.batch-index l.batch-items);
}
