use Rattle.std.proofs.Common.{ap, sym, subst, refl}
use Rattle.sqlite.specs.Held.{state}
use Rattle.store_tables.specs.Calls.{LeavesOnly, Settled}
use Rattle.store.specs.Calls.{AcknowledgedBy, HasWritten, LeavesEither}
use Rattle.store.proofs.Committed.{
  acknowledged_again,
  acknowledged_anew,
  by_kept,
  no_stop,
  stays_same,
  together,
  want_refused,
  writes_nothing,
}
use Rattle.store.specs.declared.deciding.Plan.{Plan}
use Rattle.store.proofs.Viewed.{seen_of}
use Rattle.store.proofs.performing.try_request.Goals as goal

-- the archive had the request, or has it now
pub returns-in-Ok-make_changes-clause-acknowledged : goal.returns-in-Ok-make_changes-clause-acknowledged
returns-in-Ok-make_changes-clause-acknowledged g c clean society content rows was keeps =
    let r = c.args.request.now in
    let plan = c.in-Ok.plan in
    let changes = plan.changes in
    let made = c.in-Ok-make_changes.ensures in
    let before = made.clean clean in
    let new = state g.S.Store c.make_changes.new.conn in
    let seen = seen_of keeps in
    let decided = c.in-Ok.ensures.decides before rows content was seen in
    let words = c.in-Ok.ensures.words in
    let exact = c.in-Ok.ensures.exact before rows content was seen in
    let settled = (c.in-Ok.ensures.same before rows content was seen).0 in
    subst (λ a. AcknowledgedBy society content rows r a new) (sym (ap (λ (x : Plan). x.changes.answer) c.plan.view_is))
    (by_kept changes.kept
    (λ none. acknowledged_again society content rows r changes keeps decided words new exact none
    (subst (λ h. Settled (state g.S.Store h) rows) (sym (made.again none)) settled))
    (λ some. acknowledged_anew society content rows r changes keeps decided words new exact some
    (made.shallow some content)
    (subst (λ values. HasWritten rows changes values new) (c.in-Ok.ensures.values before rows content was seen)
    (made.made some clean rows keeps.dated.has_spans settled))))

pub returns-in-Ok-make_changes-clause-repeated : goal.returns-in-Ok-make_changes-clause-repeated
returns-in-Ok-make_changes-clause-repeated g c clean society content rows was keeps kept =
    let made = c.in-Ok-make_changes.ensures in
    let before = made.clean clean in
    let none = writes_nothing content c.args.request.now c.in-Ok.plan.changes
    (c.in-Ok.ensures.exact before rows content was (seen_of keeps)) kept in
    subst (λ h. LeavesOnly (state g.S.Store h) rows) (sym (made.again none))
    (c.in-Ok.ensures.crash before rows content was (seen_of keeps))

pub returns-in-Err-make_changes-clause-refused : goal.returns-in-Err-make_changes-clause-refused
returns-in-Err-make_changes-clause-refused g c clean sure society content rows was keeps =
    let made = c.in-Err-make_changes.ensures in (
      want_refused content c.args.request.now c.in-Err-make_changes.kind made.refused sure,
      made.undone clean sure rows
          (c.in-Ok.ensures.same (made.clean clean) rows content was (seen_of keeps)).0,
    )

pub returns-in-Err-make_changes-clause-together : goal.returns-in-Err-make_changes-clause-together
returns-in-Err-make_changes-clause-together g c clean society content rows was keeps =
    let made = c.in-Err-make_changes.ensures in
    let before = made.clean clean in
    let changes = c.in-Ok.plan.changes in
    let new = state g.S.Store c.make_changes.new.conn in
    let seen = seen_of keeps in
    together society content rows c.args.request.now changes keeps
    (c.in-Ok.ensures.decides before rows content was seen) c.in-Ok.ensures.words new
    (c.in-Ok.ensures.exact before rows content was seen) made.kept
    (subst (λ values. LeavesEither new rows changes values) (c.in-Ok.ensures.values before rows content was seen)
    (made.crash made.kept clean rows keeps.dated.has_spans
    (c.in-Ok.ensures.same before rows content was seen).0))

pub returns-in-Err-make_changes-clause-repeated : goal.returns-in-Err-make_changes-clause-repeated
returns-in-Err-make_changes-clause-repeated g c clean society content rows was keeps kept =
    let made = c.in-Err-make_changes.ensures in
    absurd (made.kept (writes_nothing content c.args.request.now c.in-Ok.plan.changes
    (c.in-Ok.ensures.exact (made.clean clean) rows content was (seen_of keeps)) kept))

-- nothing was decided, and nothing written
pub returns-in-Err-clause-refused : goal.returns-in-Err-clause-refused
returns-in-Err-clause-refused g c clean sure society content rows was keeps =
    let decided = c.in-Err.ensures in
    let e = c.in-Err.refusal in
    let readable = decided.readable clean rows content was (seen_of keeps) in (
      (
        refl,
        λ want. decided.declines clean rows content was (seen_of keeps)
            (no_stop e.kind want sure readable),
      ),
      decided.crash clean rows content was (seen_of keeps),
    )

pub returns-in-Err-clause-together : goal.returns-in-Err-clause-together
returns-in-Err-clause-together g c clean society content rows was keeps =
    stays_same (state g.S.Store c.decide_on.new.archive.conn) society content rows c.args.request.now
    (c.in-Err.ensures.crash clean rows content was (seen_of keeps))

pub returns-in-Err-clause-repeated : goal.returns-in-Err-clause-repeated
returns-in-Err-clause-repeated g c clean society content rows was keeps kept =
    c.in-Err.ensures.crash clean rows content was (seen_of keeps)

pub returns-in-Ok-make_changes-clause-quiet : goal.returns-in-Ok-make_changes-clause-quiet
returns-in-Ok-make_changes-clause-quiet g c clean society content rows was keeps =
    (c.in-Ok.ensures.same (c.in-Ok-make_changes.ensures.clean clean) rows content was (seen_of keeps)).1
