use Rattle.character_sets.specs.CodePages.{is_alike}
use Rattle.character_sets.proofs.Lists.{same_test}
use Rattle.character_sets.proofs.code_pages.is_one_character.Goals as goal

pub returns : goal.returns
unfolding is_alike
returns c = same_test _ _ _ _ c.character.ensures c.character-2.ensures
