use Rattle.gedcom_export.specs.Shown.{names_in}
use Rattle.gedcom_export.proofs.Lines.{evented, evented_all, lines_done, then_lines}
use Rattle.gedcom_export.proofs.owned.push_events.Goals as goal

pub events-preserved : goal.events-preserved
events-preserved c =
    then_lines (names_in c.args.index.now) 1 (evented c.args.state.now.records c.args.index.now)
    c.args.events.now c.events.event-index (record { owner = 0; number = 0 }) _ _ _
    c.events-test.true c.in_ok-push_event_at.ensures c.events.invariant

pub returns : goal.returns
returns c = lines_done (names_in c.args.index.now) 1 (evented c.args.state.now.records c.args.index.now)
    c.args.events.now c.events.event-index _ _ _ c.events-test.false c.events.invariant
    (evented_all c.args.state.now.records c.args.index.now c.args.events.now)
