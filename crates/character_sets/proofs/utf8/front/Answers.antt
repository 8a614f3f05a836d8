use Rattle.std.proofs.Common.{◌∙◌, arith, sym}
use Rattle.character_sets.proofs.Characters.{front_led, front_none}
use Rattle.character_sets.proofs.utf8.front.Goals as goal

pub returns-in_default-clause-front : goal.returns-in_default-clause-front
returns-in_default-clause-front c = sym (front_none c.args.units.now (omega (arith, c.in_default.len_below)))

pub returns-clause-front : goal.returns-clause-front
returns-clause-front c = c.led_by.ensures.front
    ∙ sym (front_led c.args.units.now (omega (arith, c.in-len1-up.len_at_least)))
