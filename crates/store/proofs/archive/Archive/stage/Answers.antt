use Rattle.sqlite.specs.Held.{state}
use Rattle.store_tables.proofs.Queries.{only_committed}
use Rattle.store.proofs.OpenCalls.{stage_call}
use Rattle.store.proofs.archive.Archive.stage.Goals as goal

pub returns-clause-called : goal.returns-clause-called
returns-clause-called g c r =
    let was = c.args.self.now in
    let new = c.stage_open-staged.new in
    let did = c.stage_open-staged.ensures in
    stage_call g.S.Store was.conn new.conn r
    (λ rows settled t l. only_committed (state g.S.Store new.conn) rows t settled
    (g.met.S.Store.settled new.conn.store t settled.is_open l))
    c.stage_open-staged.result was.is_lost c.has_broken-self.result was.import new.import c.if-self.false
    c.has_broken-self.ensures did.staged did.left did.stays did.crash did.none did.clean
