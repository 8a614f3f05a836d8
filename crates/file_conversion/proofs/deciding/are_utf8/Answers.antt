use Rattle.std.proofs.Common.{◌∙◌, ◌<◌, ap, arith, length, rules, sym}
use Rattle.file_conversion.specs.Conversion.{are_whole}
use Rattle.character_sets.proofs.FirstLines.{none}
use Rattle.file_conversion.proofs.deciding.are_utf8.Goals as goal

pub returns : goal.returns
returns c = let h : length c.lines.rest.now < 1 = first_of (search rules, grind arith) in
    sym (ap (are_whole c.lines.carry.items) (none c.lines.rest.now h)) ∙ c.lines.invariant
