use Rattle.character_sets.proofs.Characters.{letter_done}
use Rattle.character_sets.proofs.ansel.push_unit.Goals as goal

pub returns-in_ok-push_letter-in-None : goal.returns-in_ok-push_letter-in-None
returns-in_ok-push_letter-in-None c = letter_done _ _ c.args.unit _ _ _ _ c.in-None.ensures c.ansel_character.ensures
    c.deref.ensures.value c.in_ok-push_letter-in-None.ensures c.clear.ensures.items
