use Rattle.merging.proofs.Numbers.{numbers_found}
use Rattle.merging.proofs.laws.changed_numbers_are_of_referrers.Goals as goal

pub returns : goal.returns
returns _ keep gone c k g at_k at_g = numbers_found keep gone c k g at_k at_g
