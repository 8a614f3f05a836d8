use Rattle.sqlite.specs.Held.{state}
use Rattle.store_tables.proofs.Queries.{only_committed}
use Rattle.store.proofs.OpenCalls.{abandon_call}
use Rattle.store.proofs.archive.Archive.abandon.Goals as goal

pub returns-clause-called : goal.returns-clause-called
returns-clause-called g c r =
    let was = c.args.self.now in
    let new = c.abandon_open-given_up.new in
    let did = c.abandon_open-given_up.ensures in
    abandon_call g.S.Store was.conn new.conn r
    (λ rows settled t l. only_committed (state g.S.Store new.conn) rows t settled
    (g.met.S.Store.settled new.conn.store t settled.is_open l))
    c.abandon_open-given_up.result was.is_lost c.has_broken-self.result was.import new.import c.if-self.false
    c.has_broken-self.ensures did.gone did.closed did.told did.crash did.none did.clean
