use Rattle.std.proofs.Common.{◌∙◌, ap, inr, refl}
use Rattle.sqlite.specs.Held.{state}
use Rattle.store_tables.specs.Looking.{version_number}
use Rattle.store.specs.Histories.{is_storage}
use Rattle.store.proofs.Adopted.{
  err_both,
  err_then,
  first_taken,
  not_recognised,
  second_taken,
  settled_first,
  settled_second,
  settled_unknown,
  unread_second,
}
use Rattle.store.proofs.Recognised.{by_stop, stop_is_not_foreign}
use Rattle.store.proofs.adopting.take_up.Goals as goal
use Rattle.list_laws.proofs.Outcomes.{any_ok}

pub returns-in-Ok-Second-clause-takes : goal.returns-in-Ok-Second-clause-takes
returns-in-Ok-Second-clause-takes g c clean =
    let after = c.remove_imports.ensures in
    let before = after.clean clean in
    let found = c.in-Ok-Second.ensures in
    let alike = c.what_is_seen_means_the_same.ensures in
    second_taken alike.means alike.spans alike.links alike.soughts
    (state g.S.Store c.args.conn.now) (state g.S.Store c.recognise.new.conn)
    (state g.S.Store c.remove_imports.new.conn) c.remove_imports.result (found.stays before) (after.clears clean)
    (λ rows was. found.version before rows was ∙ ap version_number c.in-Ok-Second.field-0-is)

pub returns-in-Ok-Second-clause-recognised : goal.returns-in-Ok-Second-clause-recognised
returns-in-Ok-Second-clause-recognised g c clean =
    let before = c.remove_imports.ensures.clean clean in
    any_ok c.remove_imports.result (c.in-Ok-Second.field-0, c.in-Ok-Second.ensures.recognised before)

pub returns-in-Ok-Second-clause-left : goal.returns-in-Ok-Second-clause-left
returns-in-Ok-Second-clause-left g c =
    let after = c.remove_imports.ensures in
    err_then c.remove_imports.result (λ kind stop. inr (
      stop,
      (λ clean. (c.in-Ok-Second.field-0, c.in-Ok-Second.ensures.recognised (after.clean clean))),
    )) after.stop

pub returns-in-Ok-Second-clause-told : goal.returns-in-Ok-Second-clause-told
returns-in-Ok-Second-clause-told g c clean =
    let old = state g.S.Store c.args.conn.now in
    let after = c.remove_imports.ensures in
    let before = after.clean clean in
    let found = c.in-Ok-Second.ensures in
    err_then c.remove_imports.result (λ kind stop. by_stop g.S.Store old kind stop (λ bad. (
      (c.in-Ok-Second.field-0, found.recognised before),
      unread_second old (λ rows was. found.version before rows was ∙ ap version_number c.in-Ok-Second.field-0-is),
    ))) after.stop

pub returns-in-Ok-Second-clause-foreign : goal.returns-in-Ok-Second-clause-foreign
returns-in-Ok-Second-clause-foreign g c =
    err_then c.remove_imports.result (λ kind stop foreign. absurd (stop_is_not_foreign kind stop foreign))
    c.remove_imports.ensures.stop

pub returns-in-Ok-Second-clause-unchanged : goal.returns-in-Ok-Second-clause-unchanged
returns-in-Ok-Second-clause-unchanged g c clean =
    err_then c.remove_imports.result (λ kind stop foreign. absurd (stop_is_not_foreign kind stop foreign))
    c.remove_imports.ensures.stop

pub returns-in-Ok-Second-clause-stays : goal.returns-in-Ok-Second-clause-stays
returns-in-Ok-Second-clause-stays g c clean =
    let after = c.remove_imports.ensures in
    let before = after.clean clean in
    let found = c.in-Ok-Second.ensures in
    settled_second (state g.S.Store c.args.conn.now) (state g.S.Store c.recognise.new.conn)
    (state g.S.Store c.remove_imports.new.conn) c.remove_imports.result (found.stays before) (after.clears clean)
    (λ rows was. found.version before rows was ∙ ap version_number c.in-Ok-Second.field-0-is)

pub returns-in-Ok-First-clause-takes : goal.returns-in-Ok-First-clause-takes
returns-in-Ok-First-clause-takes g c clean =
    let after = c.make_anew.ensures in
    let before = after.clean clean in
    let found = c.in-Ok-First.ensures in
    first_taken (state g.S.Store c.args.conn.now) (state g.S.Store c.recognise.new.conn)
    (state g.S.Store c.make_anew.new.conn) c.make_anew.result (found.stays before) (after.takes clean)
    (λ rows was. found.version before rows was ∙ ap version_number c.in-Ok-First.field-0-is)

pub returns-in-Ok-First-clause-recognised : goal.returns-in-Ok-First-clause-recognised
returns-in-Ok-First-clause-recognised g c clean =
    let before = c.make_anew.ensures.clean clean in
    any_ok c.make_anew.result (c.in-Ok-First.field-0, c.in-Ok-First.ensures.recognised before)

pub returns-in-Ok-First-clause-left : goal.returns-in-Ok-First-clause-left
returns-in-Ok-First-clause-left g c =
    let after = c.make_anew.ensures in
    err_then c.make_anew.result (λ kind stop. inr (
      stop,
      (λ clean. (c.in-Ok-First.field-0, c.in-Ok-First.ensures.recognised (after.clean clean))),
    )) after.stop

pub returns-in-Ok-First-clause-told : goal.returns-in-Ok-First-clause-told
returns-in-Ok-First-clause-told g c clean =
    let after = c.make_anew.ensures in
    let before = after.clean clean in
    let found = c.in-Ok-First.ensures in
    err_both c.make_anew.result (λ kind stop unread. by_stop g.S.Store (state g.S.Store c.args.conn.now) kind stop
    (λ bad. (
      (c.in-Ok-First.field-0, found.recognised before),
      λ rows content was. unread bad rows content ((found.stays before).same refl rows was),
    ))) after.stop (after.unreadable clean)

pub returns-in-Ok-First-clause-foreign : goal.returns-in-Ok-First-clause-foreign
returns-in-Ok-First-clause-foreign g c =
    err_then c.make_anew.result (λ kind stop foreign. absurd (stop_is_not_foreign kind stop foreign))
    c.make_anew.ensures.stop

pub returns-in-Ok-First-clause-unchanged : goal.returns-in-Ok-First-clause-unchanged
returns-in-Ok-First-clause-unchanged g c clean =
    err_then c.make_anew.result (λ kind stop foreign. absurd (stop_is_not_foreign kind stop foreign))
    c.make_anew.ensures.stop

pub returns-in-Ok-First-clause-stays : goal.returns-in-Ok-First-clause-stays
returns-in-Ok-First-clause-stays g c clean sure =
    let after = c.make_anew.ensures in
    settled_first (state g.S.Store c.args.conn.now) (state g.S.Store c.recognise.new.conn)
    (state g.S.Store c.make_anew.new.conn) c.make_anew.result (c.in-Ok-First.ensures.stays (after.clean clean))
    (after.stays clean sure)

pub returns-in-Err-clause-takes : goal.returns-in-Err-clause-takes
returns-in-Err-clause-takes g c clean =
    let found = c.in-Err.ensures in
    not_recognised (state g.S.Store c.args.conn.now) (state g.S.Store c.recognise.new.conn) c.in-Err.kind
    (found.stays clean) (found.refused clean)

pub returns-in-Err-clause-stays : goal.returns-in-Err-clause-stays
returns-in-Err-clause-stays g c clean =
    settled_unknown (state g.S.Store c.args.conn.now) (state g.S.Store c.recognise.new.conn) (is_storage c.in-Err.kind)
    (c.in-Err.ensures.stays clean)
