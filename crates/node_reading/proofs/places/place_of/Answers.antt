use Rattle.std.proofs.Common.{◌∙◌}
use Rattle.node_reading.proofs.Placed.{path_read, place_read}
use Rattle.node_reading.proofs.places.place_of.Goals as goal

pub returns-clause-place : goal.returns-clause-place
returns-clause-place g c = place_read (g.K.Known.known c.args.earlier.now) c.args.lines.items
    c.in_ok-named_lines.field-0.name c.in_ok-named_lines.field-0.lines.items c.in_ok-place.place
    c.in_ok-named_lines.ensures.name c.in_ok-named_lines.ensures.lines c.in_ok-place.ensures

pub returns-clause-path : goal.returns-clause-path
returns-clause-path g c = c.in_ok-path.ensures ∙ path_read (g.K.Known.known c.args.earlier.now) c.args.lines.items
    c.in_ok-place.place
    (place_read (g.K.Known.known c.args.earlier.now) c.args.lines.items c.in_ok-named_lines.field-0.name
    c.in_ok-named_lines.field-0.lines.items c.in_ok-place.place c.in_ok-named_lines.ensures.name
    c.in_ok-named_lines.ensures.lines c.in_ok-place.ensures)
