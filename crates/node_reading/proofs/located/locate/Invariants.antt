use Rattle.std.proofs.Common.{◌≡◌, ◌++◌}
use Rattle.std.specs.Prelude.{option_map}
use Rattle.std.specs.List.{filter}
use Rattle.std.specs.Vec.Iter.{into_iter_items}
use Rattle.record_shapes.specs.Forms.{number_of}
use Rattle.record_shapes.specs.Picking.{first}
use Rattle.record_shapes.specs.Reading.{is_loc, without}
use Rattle.node_reading.specs.Told.{number_or, unlocated}
use Rattle.node_reading.proofs.located.locate.Given as goal

abbrev pub invariant-lines : goal.invariant-lines
invariant-lines g l = record {
  number : number_or (is_loc (g.K.Known.known l.known) l.path) l.located.number (into_iter_items l.line-iterator)
      ≡ option_map number_of (first (filter (is_loc (g.K.Known.known l.known) l.path) l.fn.lines.items));
  carried : l.located.carried.items ++ unlocated (is_loc (g.K.Known.known l.known) l.path) l.located.number
      (into_iter_items l.line-iterator) ≡ without (is_loc (g.K.Known.known l.known) l.path) l.fn.lines.items;
}
