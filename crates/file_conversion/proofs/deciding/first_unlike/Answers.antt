use Rattle.std.proofs.Common.{◌∙◌, ◌<◌, ap, arith, length, rules, sym}
use Rattle.file_conversion.specs.Conversion.{first_unlike}
use Rattle.character_sets.proofs.FirstLines.{none}
use Rattle.file_conversion.proofs.deciding.first_unlike.Goals as goal

pub returns : goal.returns
returns c = let h : length c.lines.rest.now < 1 = first_of (search rules, grind arith) in
    sym (ap (first_unlike c.lines.line) (none c.lines.rest.now h)) ∙ c.lines.invariant.found
