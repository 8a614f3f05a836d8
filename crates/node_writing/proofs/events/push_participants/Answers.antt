use Rattle.record_shapes.specs.Shapes.{participant_line}
use Rattle.node_writing.proofs.Appending.{all_written, then_next}
use Rattle.node_writing.proofs.events.push_participants.Goals as goal

pub participants-preserved : goal.participants-preserved
participants-preserved g c = then_next (g.N.Named.names c.args.index.now) 2 participant_line c.args.participants.now
    c.participants.participant-index c.participant-item.result _ _ _
    c.participants-test.true c.participant-item.is c.in_ok-push_participant.ensures c.participants.invariant

pub returns : goal.returns
returns g c = all_written (g.N.Named.names c.args.index.now) 2 participant_line c.args.participants.now
    c.participants.participant-index _ _ c.participants-test.false
    c.participants.invariant
