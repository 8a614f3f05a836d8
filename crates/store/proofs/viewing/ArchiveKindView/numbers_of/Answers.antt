use Rattle.std.proofs.Common.{◌≡◌, arith, inl, inr}
use Rattle.sqlite.specs.Held.{state}
use Rattle.sqlite.specs.State.{HasCleanDisk}
use Rattle.sqlite.specs.Tree.{Trees}
use Rattle.archive_state.specs.Content.{Content}
use Rattle.kind_views.specs.Kinds.{numbers_of}
use Rattle.store.proofs.Viewed.{err_shown, lost_shown, ok_shown}
use Rattle.store.proofs.viewing.ArchiveKindView.numbers_of.Goals as goal

pub returns-then-self-clause-shows : goal.returns-then-self-clause-shows
returns-then-self-clause-shows g c clean =
    let was = c.args.self.now in
    let now = c.fail.new.archive in
    let after = c.fail.ensures in
    lost_shown (state g.S.Store was.conn) (state g.S.Store now.conn) was.is_lost now.is_lost was.failures now.failures
    c.fail.result c.if-self.true
    (omega (arith, after.survives.clean, clean))
    (λ t l. elim (after.survives.crash clean t l) [ inl left ↦ left | inr none ↦ absurd none ])
    after.same after.lost

pub returns-in-Ok-clause-shows : goal.returns-in-Ok-clause-shows
returns-in-Ok-clause-shows g c clean =
    let was = c.args.self.now in
    ok_shown (λ (x : Content) found. found.items ≡ numbers_of c.args.kinds x)
    (state g.S.Store was.conn) (state g.S.Store c.numbers_of.new.conn) was.is_lost was.failures c.in-Ok.found
    c.if-self.false
    c.in-Ok.ensures.sees clean

pub returns-in-Err-clause-shows : goal.returns-in-Err-clause-shows
returns-in-Err-clause-shows g c clean =
    let was = c.args.self.now in
    let now = c.fail-in-Err.new.archive in
    let after = c.fail-in-Err.ensures in
    let mid = state g.S.Store c.numbers_of.new.conn in
    let new = state g.S.Store now.conn in
    let before : HasCleanDisk mid = omega (arith, after.survives.clean, clean) in
    let left : (t : Trees) → new.may_leave t → mid.may_leave t = λ t l. elim (after.survives.crash clean t l)
    [ inl left ↦ left | inr none ↦ absurd none ] in
    err_shown (λ (x : Content) found. found.items ≡ numbers_of c.args.kinds x)
    (state g.S.Store was.conn) mid new was.is_lost now.is_lost was.failures now.failures c.in-Err.kind
    c.fail-in-Err.result c.if-self.false c.in-Err.ensures.sees before left
    (after.settled clean) after.same after.lost after.passed
