use Rattle.sqlite.specs.Held.{state}
use Rattle.store_tables.proofs.Queries.{only_committed}
use Rattle.store.proofs.OpenCalls.{publish_call}
use Rattle.store.proofs.archive.Archive.publish.Goals as goal

pub returns-clause-called : goal.returns-clause-called
returns-clause-called g c r =
    let was = c.args.self.now in
    let new = c.publish_open-published.new in
    let did = c.publish_open-published.ensures in
    publish_call g.S.Store was.conn new.conn r
    (λ rows settled t l. only_committed (state g.S.Store new.conn) rows t settled
    (g.met.S.Store.settled new.conn.store t settled.is_open l))
    c.publish_open-published.result was.is_lost c.has_broken-self.result was.import new.import c.if-self.false
    c.has_broken-self.ensures did.done did.crash did.closed did.kept did.unfinished did.told did.none did.clean
