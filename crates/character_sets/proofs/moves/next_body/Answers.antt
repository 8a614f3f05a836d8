use Rattle.std.proofs.Common.{◌∙◌, ◌<◌, ap, arith, length, rules, sym}
use Rattle.character_sets.specs.Moves.{next_body}
use Rattle.character_sets.proofs.FirstLines.{empty, none}
use Rattle.character_sets.proofs.moves.next_body.Goals as goal

pub returns : goal.returns
returns c = let h : length c.lines.rest.now < 1 = first_of (search rules, grind arith) in
    empty c.lines.rest.now h ∙ (sym (ap next_body (none c.lines.rest.now h)) ∙ c.lines.invariant)
