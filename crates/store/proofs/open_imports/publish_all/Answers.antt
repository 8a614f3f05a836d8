use Rattle.sqlite.specs.Held.{state}
use Rattle.archive_state.specs.Applied.{applied}
use Rattle.store.proofs.Steps.{done_or_not_yet}
use Rattle.store.proofs.open_imports.publish_all.Goals as goal

pub returns-in-Ok-clause-done : goal.returns-in-Ok-clause-done
returns-in-Ok-clause-done g c clean = (
  c.answer_of.ensures,
  λ society content r has.
      c.in-Ok.ensures.published clean society content r has (c.has_more.ensures.0 c.if-has_more.false),
)

pub returns-in-Ok-clause-crash : goal.returns-in-Ok-clause-crash
returns-in-Ok-clause-crash g c clean none society content r has =
    let import = c.args.import.now in
    done_or_not_yet (state g.S.Store c.publish_on.new.conn) society content (applied content import.changes) r
    import.changes.answer has.2.accepted.accepted (c.publish_on.ensures.crash clean society content r has none)

pub returns-in-Err-clause-crash : goal.returns-in-Err-clause-crash
returns-in-Err-clause-crash g c clean none society content r has =
    let import = c.args.import.now in
    done_or_not_yet (state g.S.Store c.publish_on.new.conn) society content (applied content import.changes) r
    import.changes.answer has.2.accepted.accepted (c.publish_on.ensures.crash clean society content r has none)
