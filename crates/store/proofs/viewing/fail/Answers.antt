use Rattle.std.proofs.Common.{◌≡◌, false, subst, sym}
use Rattle.sqlite.specs.Held.{state}
use Rattle.sqlite.specs.State.{HasCleanDisk}
use Rattle.store_tables.specs.Calls.{LeavesOnly, Settled}
use Rattle.store_tables.specs.Rows.{Rows}
use Rattle.store.specs.Histories.{is_storage}
use Rattle.store.proofs.viewing.fail.Goals as goal

pub returns-clause-settled : goal.returns-clause-settled
returns-clause-settled g c =
    let asked = c.refusal_after-kind in
    let old = state g.S.Store c.args.archive.now.conn in
    subst (λ conn. HasCleanDisk (state g.S.Store conn) → is_storage asked.result ≡ false → (rows : Rows)
    → LeavesOnly old rows → Settled (state g.S.Store conn) rows)
    (sym c.note.ensures.conn) asked.ensures.settled
