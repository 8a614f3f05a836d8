use Rattle.std.proofs.Common.{rules, ◌≡◌, subst}
use Rattle.std.specs.Prelude.{OnOk}
use Rattle.sqlite.specs.Held.{state}
use Rattle.archive_state.specs.Applied.{applied}
use Rattle.archive_state.specs.Content.{Content}
use Rattle.store_rows.specs.Meaning.{AllShallow}
use Rattle.store.specs.Calls.{LeavesEither}
use Rattle.store.specs.declared.deciding.Plan.{Plan}
use Rattle.store.proofs.performing.make_changes.Goals as goal

pub returns-clause-shallow : goal.returns-clause-shallow
returns-clause-shallow g c some =
    subst (λ (x : Plan). OnOk c.commit_changes.result ((content : Content) → AllShallow content
    → AllShallow (applied content x.changes))) c.plan.view_is c.commit_changes.ensures.shallow

pub returns-clause-crash : goal.returns-clause-crash
returns-clause-crash g c some clean rows has was =
    let new = state g.S.Store c.commit_changes.new.conn in
    let is : c.deref.result.now ≡ c.args.plan.values.items = search rules in
    subst (λ values. LeavesEither new rows c.args.plan.changes values) is
    (subst (λ (x : Plan). LeavesEither new rows x.changes c.deref.result.now) c.plan.view_is
    (c.commit_changes.ensures.crash clean rows has was))
