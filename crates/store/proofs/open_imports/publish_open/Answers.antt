use Rattle.std.proofs.Common.{subst, sym, ◌∙◌}
use Rattle.std.specs.Prelude.{ℕ, ◌≡◌, ◌≢◌, Err, IfSome, List, Ok, Result, []}
use Rattle.sqlite.specs.Held.{state}
use Rattle.record_text.specs.declared.refusal.RefusalKind.{RefusalKind}
use Rattle.record_text.specs.declared.refusal.RefusalKind.TheVariants.{NotAllStaged}
use Rattle.receipts.specs.declared.answer.Answer.{Answer}
use Rattle.archive_state.specs.Content.{Content}
use Rattle.archive_core.specs.declared.request.Request.{Request}
use Rattle.store.specs.Calls.{LeavesDoneOrNot}
use Rattle.store.specs.Importing.{HasImport}
use Rattle.store.proofs.open_imports.publish_open.Goals as goal

pub returns-in-Ok-clause-crash : goal.returns-in-Ok-clause-crash
returns-in-Ok-clause-crash g c clean =
    subst (λ o. IfSome o (λ i. i.left ≡ [] → (society : List ℕ) (content : Content) (r : Request)
    → HasImport society content r i (state g.S.Store c.args.conn.now)
    → LeavesDoneOrNot (state g.S.Store c.publish_all-published.new.conn) society content r))
    (sym c.in-Some.is) (c.publish_all-published.ensures.crash clean)

pub returns-in-Ok-clause-unfinished : goal.returns-in-Ok-clause-unfinished
returns-in-Ok-clause-unfinished g c =
    subst (λ o. IfSome o (λ i. i.left ≢ []
    → (◌≡◌ {A = Result Answer RefusalKind} (Ok c.in-Ok.answer) (Err NotAllStaged))
    × (c.publish_all-published.new.conn ≡ c.args.conn.now))) (sym c.in-Some.is)
    (λ some. let un = c.publish_all-published.ensures.unfinished some in (sym c.in-Ok.is ∙ un.0, un.1))

pub returns-in-Err-clause-crash : goal.returns-in-Err-clause-crash
returns-in-Err-clause-crash g c clean =
    subst (λ o. IfSome o (λ i. i.left ≡ [] → (society : List ℕ) (content : Content) (r : Request)
    → HasImport society content r i (state g.S.Store c.args.conn.now)
    → LeavesDoneOrNot (state g.S.Store c.publish_all-published.new.conn) society content r))
    (sym c.in-Some.is) (c.publish_all-published.ensures.crash clean)

pub returns-in-Err-clause-unfinished : goal.returns-in-Err-clause-unfinished
returns-in-Err-clause-unfinished g c =
    subst (λ o. IfSome o (λ i. i.left ≢ []
    → (◌≡◌ {A = Result Answer RefusalKind} (Err c.in-Err.kind) (Err NotAllStaged))
    × (c.publish_all-published.new.conn ≡ c.args.conn.now))) (sym c.in-Some.is)
    (λ some. let un = c.publish_all-published.ensures.unfinished some in (sym c.in-Err.is ∙ un.0, un.1))
