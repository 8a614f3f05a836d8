use Rattle.std.proofs.Common.{ap, ◌∙◌, map}
use Rattle.record_shapes.specs.Reading.{path_from}
use Rattle.import_definitions.specs.Lines.{roots}
use Rattle.import_definitions.specs.Positions.{known_by}
use Rattle.file_records.specs.KnownViews.{path_said}
use Rattle.file_records.proofs.reading.place_path.Goals as goal

pub returns : goal.returns
returns c = c.in_ok-path.ensures.path
    ∙ ap (path_from (known_by (roots c.args.roots.now) (map path_said c.args.before.now))) c.in_ok-lines.ensures
