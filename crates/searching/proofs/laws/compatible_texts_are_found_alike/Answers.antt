use Rattle.std.proofs.Common.{ap, map}
use Rattle.searching.specs.Folding.{folded, unslashed}
use Rattle.searching.proofs.laws.compatible_texts_are_found_alike.Goals as goal

pub returns-clause-texts : goal.returns-clause-texts
returns-clause-texts c a b same = ap folded same

pub returns-clause-names : goal.returns-clause-names
returns-clause-names c a b same = ap (λ l. folded (map unslashed l)) same
