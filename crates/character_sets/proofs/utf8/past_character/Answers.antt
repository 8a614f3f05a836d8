use Rattle.character_sets.proofs.Characters.{partial_past, shorter, stray_past, whole_past}
use Rattle.character_sets.proofs.utf8.past_character.Goals as goal

pub returns-in-Whole : goal.returns-in-Whole
returns-in-Whole c = (
  whole_past c.args.units.now c.in-Whole.field-0 c.in-Whole.count c.requires c.in-Whole.ensures.front
      c.in-Whole.ensures.within,
  shorter c.args.units.now c.in-Whole.field-0 c.in-Whole.count c.in-Whole.ensures.within,
)

pub returns-in-Partial : goal.returns-in-Partial
returns-in-Partial c = partial_past c.args.units.now c.requires c.in-Partial.ensures.front

pub returns-in-Stray : goal.returns-in-Stray
returns-in-Stray c = stray_past c.args.units.now c.requires c.in-Stray.ensures.front
