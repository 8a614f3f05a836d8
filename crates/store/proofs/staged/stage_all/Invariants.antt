use Rattle.std.proofs.Common.{◌≡◌, false, length}
use Rattle.sqlite.specs.Held.{state}
use Rattle.sqlite.specs.State.{HasCleanDisk}
use Rattle.import_commits.specs.Commits.{IsWhole}
use Rattle.store.specs.Importing.{StaysOn}
use Rattle.store.proofs.Told.{IsTold}
use Rattle.store.proofs.staged.stage_all.Given as goal

abbrev pub invariant-stages : goal.invariant-stages
invariant-stages g l = record {
  same : l.import ≡ record l.fn.import { left = l.import.left };
  ended : l.conn.in_transaction ≡ false;
  clean : HasCleanDisk (state g.S.Store l.conn) → HasCleanDisk (state g.S.Store l.fn.conn);
  stays : HasCleanDisk (state g.S.Store l.conn)
      → StaysOn l.fn.import (state g.S.Store l.fn.conn) l.import (state g.S.Store l.conn);
  told : IsWhole l.fn.import.batch l.fn.import.changes l.fn.import
      → IsTold g.P.Progress.Tells (length l.fn.import.left) l.import.left l.rows l.fn.progress l.progress;
}

-- the rows that are left
abbrev pub decreases-stages : goal.decreases-stages
decreases-stages g l = length l.import.left
