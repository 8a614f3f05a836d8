use Rattle.std.proofs.Common.{◌∙◌}
use Rattle.store_rows.proofs.Found.{no_place_there}
use Rattle.store_rows.proofs.finding.climbed_at.Goals as goal

pub returns-in-Some-clause-tells : goal.returns-in-Some-clause-tells
returns-in-Some-clause-tells c = λ m at. c.climbed_from.ensures.tells m (at ∙ c.in-Some.ensures)

pub returns-in-None-clause-tells : goal.returns-in-None-clause-tells
returns-in-None-clause-tells c = no_place_there _ _ _ c.in-None.ensures
