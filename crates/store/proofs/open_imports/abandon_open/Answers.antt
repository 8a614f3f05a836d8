use Rattle.std.proofs.Common.{subst, sym}
use Rattle.std.specs.Prelude.{ℕ, ◌≡◌, IfSome, List}
use Rattle.sqlite.specs.Held.{state}
use Rattle.archive_state.specs.Content.{Content}
use Rattle.archive_core.specs.declared.request.Request.{Request}
use Rattle.store.specs.Archives.{LeavesArchive}
use Rattle.store.specs.Importing.{HasImport}
use Rattle.store.proofs.open_imports.abandon_open.Goals as goal

pub returns-in-Ok-clause-crash : goal.returns-in-Ok-clause-crash
returns-in-Ok-clause-crash g c clean =
    subst (λ o. IfSome o (λ i. (society : List ℕ) (content : Content) (r : Request)
    → HasImport society content r i (state g.S.Store c.args.conn.now)
    → LeavesArchive (state g.S.Store c.abandon_on-given_up.new.conn) society (λ found. found ≡ content)))
    (sym c.in-Some.is) (c.abandon_on-given_up.ensures.crash clean)

pub returns-in-Err-clause-crash : goal.returns-in-Err-clause-crash
returns-in-Err-clause-crash g c clean =
    subst (λ o. IfSome o (λ i. (society : List ℕ) (content : Content) (r : Request)
    → HasImport society content r i (state g.S.Store c.args.conn.now)
    → LeavesArchive (state g.S.Store c.abandon_on-given_up.new.conn) society (λ found. found ≡ content)))
    (sym c.in-Some.is) (c.abandon_on-given_up.ensures.crash clean)
