use Rattle.std.proofs.Common.{◌∙◌}
use Rattle.import_definitions.specs.Lines.{place_in}
use Rattle.file_records.proofs.reading.lines_below.Goals as goal
use Rattle.import_definitions.proofs.Below.{below_fits, below_lines}

pub lines_of-requires : goal.lines_of-requires
lines_of-requires c =
    let fits = below_fits c.args.node.now c.deref.result.now c.deref.ensures.value c.requires in
    record { lines = fits.0; low = fits.1 }

pub returns : goal.returns
returns c = c.in_ok-lines.ensures.lines
    ∙ below_lines (place_in c.args.roots.now) c.args.node.now c.deref.result.now c.deref.ensures.value
