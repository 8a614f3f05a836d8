use Rattle.std.proofs.Common.{◌≡◌, ◌++◌, ◌∷◌, []}
use Rattle.std.specs.Vec.Iter.{into_iter_items}
use Rattle.record_shapes.specs.Forms.{below}
use Rattle.record_shapes.specs.Fields.{a_role, participant_field}
use Rattle.record_shapes.specs.Picking.{left, text_at}
use Rattle.node_reading.specs.Told.{roles_left}
use Rattle.node_reading.specs.Partly.{text_or}
use Rattle.node_reading.proofs.participants.participant_of.Given as goal

abbrev pub invariant-lines : goal.invariant-lines
invariant-lines l = record {
  role : text_or participant_field a_role l.role (into_iter_items l.below-iterator)
      ≡ text_at participant_field a_role (below l.fn.line);
  carried : l.carried.items ++ roles_left l.role (into_iter_items l.below-iterator)
      ≡ left participant_field (a_role ∷ []) (below l.fn.line);
}
