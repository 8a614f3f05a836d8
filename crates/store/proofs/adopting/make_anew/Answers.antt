use Rattle.sqlite.specs.Held.{state}
use Rattle.store.proofs.Adopted.{
  made_anew,
  not_cleared,
  settled_cleared,
  settled_not_cleared,
  unread_cleared,
  unread_not_cleared,
}
use Rattle.store.proofs.adopting.make_anew.Goals as goal

pub returns-in-Ok-clause-takes : goal.returns-in-Ok-clause-takes
returns-in-Ok-clause-takes g c clean =
    let after = c.renew_rows.ensures in
    made_anew c.what_is_seen_alike_means_the_same.ensures.old c.what_was_sound_is_sound_anew.ensures
    (state g.S.Store c.args.conn.now) (state g.S.Store c.remove_imports.new.conn)
    (state g.S.Store c.renew_rows.new.conn) c.renew_rows.result (c.in-Ok.ensures.clears (after.clean clean))
    (after.renews clean)

pub returns-in-Err-clause-takes : goal.returns-in-Err-clause-takes
returns-in-Err-clause-takes g c clean =
    not_cleared c.what_is_seen_alike_means_the_same.ensures.old (state g.S.Store c.args.conn.now)
    (state g.S.Store c.remove_imports.new.conn) c.in-Err.kind (c.in-Err.ensures.clears clean)

-- ---- where the database did not fail
pub returns-in-Ok-clause-unreadable : goal.returns-in-Ok-clause-unreadable
returns-in-Ok-clause-unreadable g c clean =
    let after = c.renew_rows.ensures in
    unread_cleared c.what_is_seen_alike_means_the_same.ensures.anew (state g.S.Store c.args.conn.now)
    (state g.S.Store c.remove_imports.new.conn) (state g.S.Store c.renew_rows.new.conn) c.renew_rows.result
    (c.in-Ok.ensures.clears (after.clean clean)) (after.renews clean)

pub returns-in-Ok-clause-stays : goal.returns-in-Ok-clause-stays
returns-in-Ok-clause-stays g c clean =
    let after = c.renew_rows.ensures in
    settled_cleared (state g.S.Store c.args.conn.now) (state g.S.Store c.remove_imports.new.conn)
    (state g.S.Store c.renew_rows.new.conn) c.renew_rows.result (c.in-Ok.ensures.clears (after.clean clean))
    (after.renews clean)

pub returns-in-Err-clause-unreadable : goal.returns-in-Err-clause-unreadable
returns-in-Err-clause-unreadable g c clean =
    unread_not_cleared (state g.S.Store c.args.conn.now) (state g.S.Store c.remove_imports.new.conn) c.in-Err.kind
    (c.in-Err.ensures.clears clean)

pub returns-in-Err-clause-stays : goal.returns-in-Err-clause-stays
returns-in-Err-clause-stays g c clean =
    settled_not_cleared (state g.S.Store c.args.conn.now) (state g.S.Store c.remove_imports.new.conn) c.in-Err.kind
    (c.in-Err.ensures.clears clean)
