use Rattle.std.proofs.Common.{◌≡◌, false, subst, ◌∙◌}
use Rattle.sqlite.specs.Held.{state}
use Rattle.archive_state.specs.Applied.{applied}
use Rattle.store_tables.specs.Calls.{Settled}
use Rattle.list_laws.proofs.Outcomes.{any_ok}
use Rattle.store_tables.proofs.Calls.{on_ok}
use Rattle.store.specs.Histories.{is_storage}
use Rattle.store.proofs.Steps.{acknowledged_whole, done_or_not_yet, none_left_of, not_done, only_storage}
use Rattle.store.proofs.staged.finish_on.Goals as goal

pub returns-in-Ok-clause-done : goal.returns-in-Ok-clause-done
returns-in-Ok-clause-done g c clean =
    let before = c.publish_on.ensures.clean clean in
    let import = c.args.import.now in
    let staged = c.stage_all.new.import in
    on_ok c.publish_on.result (λ published society content r has.
    let still = c.in-Ok.ensures.staged before society content r has in
    acknowledged_whole (state g.S.Store c.publish_on.new.conn) society content has.2.before still.0.2.before r import
    staged still.1 c.in-Ok.ensures.left
    (published society content r still.0 (none_left_of import staged c.in-Ok.ensures.left)))
    (c.publish_on.ensures.published clean)

pub returns-in-Ok-clause-told_all : goal.returns-in-Ok-clause-told_all
returns-in-Ok-clause-told_all g c = any_ok c.publish_on.result c.in-Ok.ensures.told_all

pub returns-in-Ok-clause-undone : goal.returns-in-Ok-clause-undone
returns-in-Ok-clause-undone g c clean = only_storage _ c.publish_on.result c.publish_on.ensures.refused

pub returns-in-Ok-clause-crash : goal.returns-in-Ok-clause-crash
returns-in-Ok-clause-crash g c clean society content r has =
    let before = c.publish_on.ensures.clean clean in
    let staged = c.stage_all.new.import in
    let still = c.in-Ok.ensures.staged before society content r has in
    done_or_not_yet (state g.S.Store c.publish_on.new.conn) society content (applied content staged.changes) r
    staged.changes.answer still.0.2.accepted.accepted
    (c.publish_on.ensures.crash clean society content r still.0
    (none_left_of c.args.import.now staged c.in-Ok.ensures.left))

pub returns-in-Ok-clause-clean : goal.returns-in-Ok-clause-clean
returns-in-Ok-clause-clean g c clean = c.in-Ok.ensures.clean (c.publish_on.ensures.clean clean)

pub returns-in-Err-clause-undone : goal.returns-in-Err-clause-undone
returns-in-Err-clause-undone g c clean sure =
    let before = c.give_up.ensures.clean clean in
    let same = c.give_up.ensures.same sure in
    let stays = c.in-Err.ensures.stays before (subst (λ k. is_storage k ≡ false) same sure) in (
      same ∙ stays.0,
      λ society content r has.
          let still = stays.1 society content r has in
          subst (Settled (state g.S.Store c.give_up.new.conn)) still.1
          (c.give_up.ensures.gone clean sure society content r still.0),
    )

pub returns-in-Err-clause-crash : goal.returns-in-Err-clause-crash
returns-in-Err-clause-crash g c clean society content r has =
    let before = c.give_up.ensures.clean clean in
    not_done (state g.S.Store c.give_up.new.conn) society content r
    (c.give_up.ensures.crash clean society content r
    (λ sure. ((c.in-Err.ensures.stays before sure).1 society content r has).0)
    (c.in-Err.ensures.crash before society content r has))

pub returns-in-Err-clause-clean : goal.returns-in-Err-clause-clean
returns-in-Err-clause-clean g c clean = c.in-Err.ensures.clean (c.give_up.ensures.clean clean)
