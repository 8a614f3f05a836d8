use Rattle.store_rows.proofs.PastsAside.{all_adds, none_added}
use Rattle.store_rows.proofs.laws.values_of_before_stay.Goals as goal

pub returns-clause-adds : goal.returns-clause-adds
returns-clause-adds c = all_adds

pub returns-clause-none : goal.returns-clause-none
returns-clause-none c = none_added
