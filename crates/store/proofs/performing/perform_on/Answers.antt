use Rattle.std.proofs.Common.{◌∷◌, [], ◌∙◌, ap, subst, sym, true≢false}
use Rattle.std.specs.Prelude.{IfOk}
use Rattle.sqlite.specs.Held.{state}
use Rattle.archive_core.specs.declared.request.Request.{Request}
use Rattle.store.specs.Calls.{Acknowledges, Performs}
use Rattle.store.specs.Overwritten.{keeps_past}
use Rattle.store.proofs.performing.perform_on.Goals as goal

pub returns-in-Some-clause-performs : goal.returns-in-Some-clause-performs
returns-in-Some-clause-performs g c clean =
    subst (λ r. Performs (state g.S.Store c.args.archive.now.conn) ((r, c.import_on.result) ∷ [])
    (state g.S.Store c.import_on.new.archive.conn)) c.in-Some.ensures (c.import_on.ensures.performs clean)

pub returns-in-Some-clause-acknowledged : goal.returns-in-Some-clause-acknowledged
returns-in-Some-clause-acknowledged g c clean =
    subst (λ r. IfOk c.import_on.result (λ answer. Acknowledges (state g.S.Store c.args.archive.now.conn) r answer
    (state g.S.Store c.import_on.new.archive.conn))) c.in-Some.ensures (c.import_on.ensures.acknowledged clean)

-- an import keeps nothing of what was there before
pub returns-in-Some-clause-together : goal.returns-in-Some-clause-together
returns-in-Some-clause-together g c clean keeps =
    absurd (true≢false (sym keeps ∙ sym (ap (λ (r : Request). keeps_past r.command) c.in-Some.ensures)))
