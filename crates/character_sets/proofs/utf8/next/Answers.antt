use Rattle.character_sets.proofs.Characters.{whole_next}
use Rattle.character_sets.proofs.utf8.next.Goals as goal

pub returns-in-Whole-clause-characters : goal.returns-in-Whole-clause-characters
returns-in-Whole-clause-characters c = whole_next c.args.units.now c.in-Whole.found c.in-Whole.count c.requires
    c.in-Whole.ensures.front c.in-Whole.ensures.within
