use Rattle.std.proofs.Common.{◌≡◌, ◌++◌}
use Rattle.std.specs.Prelude.{option_map}
use Rattle.std.specs.Vec.Iter.{into_iter_items}
use Rattle.record_shapes.specs.Paths.{normal}
use Rattle.record_shapes.specs.Fields.{a_name, place_field}
use Rattle.record_shapes.specs.Picking.{text_at, without_first}
use Rattle.node_reading.specs.Partly.{name_or, unnamed}
use Rattle.node_reading.proofs.places.named_lines.Given as goal

abbrev pub invariant-lines : goal.invariant-lines
invariant-lines l = record {
  name : name_or l.name (into_iter_items l.line-iterator) ≡ option_map normal
      (text_at place_field a_name l.fn.lines.items);
  rest : l.rest.items ++ unnamed l.name (into_iter_items l.line-iterator)
      ≡ without_first place_field a_name l.fn.lines.items;
}
