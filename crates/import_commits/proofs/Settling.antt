-- Calls in a transaction, and its commit.
use Rattle.std.proofs.Common.{◌≡◌, true, false, List, take, refl}
use Rattle.sqlite.specs.State.{Shows, State}
use Rattle.store_tables.specs.Calls.{Settled}
use Rattle.store_tables.specs.Rows.{Rows}
use Rattle.staged_rows.specs.Staging.{AreNew, StagedRow, with_staged}
use Rattle.staging.specs.Opened.{FollowsStaged}
use Rattle.staging.proofs.Commits.{committed}

-- the same of a stage, in tables that have spans
pub stage_settles : (old mid new : State) (xs : List StagedRow) (rows : Rows)
    → FollowsStaged (record old { in_transaction = true }) mid (take 256 xs)
    → Shows mid new mid.now mid.now false → rows.has_spans ≡ true → Settled old rows
    → Settled new (with_staged (take 256 xs) rows) × AreNew (take 256 xs) rows
stage_settles old mid new xs rows follows shows has was =
    let did = follows rows has
    (record { is_open = was.is_open; inside = refl; schema = was.schema; good = was.good }) in
    (committed mid new (with_staged (take 256 xs) rows) did.0 shows, did.2)
