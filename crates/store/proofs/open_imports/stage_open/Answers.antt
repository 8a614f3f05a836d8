use Rattle.std.proofs.Common.{subst, sym}
use Rattle.std.specs.Prelude.{ℕ, ◌≡◌, IfSome, List}
use Rattle.sqlite.specs.Held.{state}
use Rattle.archive_state.specs.Content.{Content}
use Rattle.archive_core.specs.declared.request.Request.{Request}
use Rattle.store.specs.Archives.{LeavesArchive}
use Rattle.store.specs.Importing.{HasImport}
use Rattle.store.proofs.OpenCalls.{open_staged, open_stays}
use Rattle.store.proofs.open_imports.stage_open.Goals as goal

pub returns-in-Some-clause-staged : goal.returns-in-Some-clause-staged
returns-in-Some-clause-staged g c clean =
    let did = c.stage_on.ensures in
    open_staged (state g.S.Store c.args.conn.now) (state g.S.Store c.stage_on.new.conn) c.args.import.now
    c.in-Some.open c.stage_on.new.import c.in-Some.is c.stage_on.result did.left (did.staged clean)

pub returns-in-Some-clause-stays : goal.returns-in-Some-clause-stays
returns-in-Some-clause-stays g c clean =
    open_stays (state g.S.Store c.args.conn.now) (state g.S.Store c.stage_on.new.conn) c.args.import.now
    c.in-Some.open c.stage_on.new.import c.in-Some.is c.stage_on.result (c.stage_on.ensures.stays clean)

pub returns-in-Some-clause-crash : goal.returns-in-Some-clause-crash
returns-in-Some-clause-crash g c clean =
    subst (λ o. IfSome o (λ i. (society : List ℕ) (content : Content) (r : Request)
    → HasImport society content r i (state g.S.Store c.args.conn.now)
    → LeavesArchive (state g.S.Store c.stage_on.new.conn) society (λ found. found ≡ content)))
    (sym c.in-Some.is) (c.stage_on.ensures.crash clean)
