use Rattle.std.proofs.Common.{Err, IfErr, IfOk, false, subst, sym, ◌≡◌}
use Rattle.std.specs.Prelude.{IfNone, IfSome}
use Rattle.sqlite.specs.Held.{state}
use Rattle.archive_core.specs.Machine.{Does, import_of}
use Rattle.store_tables.specs.Calls.{Settled}
use Rattle.store_tables.proofs.Queries.{only_committed}
use Rattle.store.specs.Calls.{OnArchive}
use Rattle.store.specs.Histories.{is_storage, loses}
use Rattle.store.specs.Importing.{HasAnswered, HasBegun}
use Rattle.store.specs.Lives.{IsCall}
use Rattle.store.specs.Standing.{begun_as, heard, standing}
use Rattle.store.proofs.OpenCalls.{begun_call, told_begun, told_kept, told_refused}
use Rattle.store.proofs.archive.Archive.begin_import.Goals as goal

pub returns-clause-begun : goal.returns-clause-begun
returns-clause-begun g c clean kept =
    let old = state g.S.Store c.args.self.now.conn in
    let new = state g.S.Store c.begin_on-begun.new.archive.conn in
    let r = import_of c.args.token.now c.args.forest.now in
    subst (λ t. IfOk t.0 (λ o. IfNone o (OnArchive old (λ society content rows.
    IfSome t.1 (λ i. HasBegun society content rows r i.changes.answer i new))))) (sym c.told-outcome.ensures)
    (told_begun old new r c.begin_on-begun.result (c.begin_on-begun.ensures.begun clean))

pub returns-clause-kept : goal.returns-clause-kept
returns-clause-kept g c clean =
    let old = state g.S.Store c.args.self.now.conn in
    let new = state g.S.Store c.begin_on-begun.new.archive.conn in
    let r = import_of c.args.token.now c.args.forest.now in
    subst (λ t. IfOk t.0 (λ o. IfSome o (λ a. OnArchive old (λ society content rows.
    HasAnswered content rows r a new)))) (sym c.told-outcome.ensures)
    (told_kept old new r c.begin_on-begun.result (c.begin_on-begun.ensures.answered clean))

pub returns-clause-refused : goal.returns-clause-refused
returns-clause-refused g c clean kept =
    let old = state g.S.Store c.args.self.now.conn in
    let new = state g.S.Store c.begin_on-begun.new.archive.conn in
    let r = import_of c.args.token.now c.args.forest.now in
    subst (λ t. IfErr t.0 (λ e. is_storage e.kind ≡ false → OnArchive old (λ society content rows.
    Does content r (Err e) content × Settled new rows))) (sym c.told-outcome.ensures)
    (told_refused _ c.begin_on-begun.result (c.begin_on-begun.ensures.refused clean))

pub returns-clause-crash : goal.returns-clause-crash
returns-clause-crash g c clean kept society content has =
    c.begin_on-begun.ensures.crash clean society content has.0 has.1 has.2

pub returns-clause-called : goal.returns-clause-called
returns-clause-called g c none =
    let was = c.args.self.now in
    let new = c.begin_on-begun.new.archive.conn in
    let r = import_of c.args.token.now c.args.forest.now in
    let did = c.begin_on-begun.ensures in
    subst (λ l. IsCall g.S.Store was.conn (standing r was.is_lost was.import)
    (heard was.is_lost (begun_as r c.told-outcome.result.0)) new (standing r l c.told-outcome.result.1))
    (sym c.loses-self.ensures)
    (subst (λ t. IsCall g.S.Store was.conn (standing r was.is_lost was.import)
    (heard was.is_lost (begun_as r t.0)) new (standing r (loses t.0) t.1)) (sym c.told-outcome.ensures)
    (begun_call g.S.Store was.conn new r
    (λ rows settled t l. only_committed (state g.S.Store new) rows t settled
    (g.met.S.Store.settled new.store t settled.is_open l)) c.begin_on-begun.result was.is_lost was.import
    c.if-self.false none
    did.begun did.answered did.refused did.crash did.clean))
