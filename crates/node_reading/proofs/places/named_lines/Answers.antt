use Rattle.std.proofs.Common.{◌≡◌, [], arith}
use Rattle.std.proofs.lemmas.Grind.{common_steps}
use Rattle.std.specs.Prelude.{option_map}
use Rattle.record_shapes.specs.Paths.{normal}
use Rattle.record_shapes.specs.Fields.{a_name, place_field}
use Rattle.record_shapes.specs.Picking.{text_at}
use Rattle.node_reading.specs.Partly.{name_or}
use Rattle.node_reading.proofs.Placed.{name_read}
use Rattle.node_reading.proofs.places.named_lines.Goals as goal

pub returns-clause-name : goal.returns-clause-name
returns-clause-name c =
    let over : name_or c.lines.name [] ≡ option_map normal (text_at place_field a_name c.args.lines.items) =
    grind (arith, common_steps) in
    name_read c.lines.name (text_at place_field a_name c.args.lines.items) c.text_or_none.result
    c.text_or_none.ensures over
