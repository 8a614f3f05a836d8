use Rattle.std.proofs.Common.{◌≡◌, ◌++◌}
use Rattle.std.specs.Prelude.{map}
use Rattle.std.specs.Vec.Iter.{into_iter_items}
use Rattle.record_shapes.specs.Fields.{person_field}
use Rattle.record_shapes.specs.Reading.{person_from}
use Rattle.node_reading.specs.Owners.{person_with, owned_on, owned_tree}
use Rattle.node_reading.proofs.owners.person_of.Given as goal

abbrev pub invariant-lines : goal.invariant-lines
invariant-lines g l = record {
  own : person_with (g.K.Known.known l.known) l.draft.person (into_iter_items l.line-iterator)
      ≡ person_from (g.K.Known.known l.known) l.fn.lines.items;
  owned : map owned_tree l.draft.owned.items
      ++ owned_on (g.K.Known.known l.known) (person_field (g.K.Known.known l.known)) (into_iter_items l.line-iterator)
      ≡ owned_on (g.K.Known.known l.known) (person_field (g.K.Known.known l.known)) l.fn.lines.items;
}
