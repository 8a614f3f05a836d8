use Rattle.store_tables.proofs.Pairing.{integers_ordered, one_integer}
use Rattle.store_tables.proofs.laws.integers_tell_their_pairs.Goals as goal

pub returns-clause-one : goal.returns-clause-one
returns-clause-one c = one_integer

pub returns-clause-ordered : goal.returns-clause-ordered
returns-clause-ordered c = integers_ordered
