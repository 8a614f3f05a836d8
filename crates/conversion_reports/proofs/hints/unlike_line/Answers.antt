use Rattle.std.proofs.Common.{◌∙◌, ◌<◌, ap, arith, length, rules, sym}
use Rattle.character_sets.proofs.FirstLines.{empty, none}
use Rattle.conversion_reports.specs.Hints.{unlike_line}
use Rattle.conversion_reports.proofs.hints.unlike_line.Goals as goal

pub returns : goal.returns
returns c = let h : length c.lines.rest.now < 1 = first_of (search rules, grind arith) in
    empty c.lines.rest.now h ∙ (sym (ap unlike_line (none c.lines.rest.now h)) ∙ c.lines.invariant)
