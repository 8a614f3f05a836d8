use Rattle.std.proofs.Common.{◌≡◌, ◌++◌}
use Rattle.std.specs.Prelude.{map}
use Rattle.std.specs.Ordering.{nat_cmp}
use Rattle.std.specs.BTreeSet.{contains}
use Rattle.std.specs.Vec.Iter.{into_iter_items}
use Rattle.record_shapes.specs.Fields.{family_field}
use Rattle.record_shapes.specs.Reading.{family_from}
use Rattle.node_reading.specs.Owners.{family_with, owned_on, owned_tree}
use Rattle.node_reading.proofs.owners.family_of.Given as goal

abbrev pub invariant-lines : goal.invariant-lines
invariant-lines g l = record {
  own : family_with (g.K.Known.known l.known) (contains nat_cmp l.seen) l.draft.family (into_iter_items l.line-iterator)
      ≡ family_from (g.K.Known.known l.known) l.fn.lines.items;
  owned : map owned_tree l.draft.owned.items
      ++ owned_on (g.K.Known.known l.known) (family_field (g.K.Known.known l.known)) (into_iter_items l.line-iterator)
      ≡ owned_on (g.K.Known.known l.known) (family_field (g.K.Known.known l.known)) l.fn.lines.items;
}
