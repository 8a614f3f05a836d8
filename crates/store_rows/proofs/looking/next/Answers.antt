use Rattle.std.proofs.Common.{◌∙◌}
use Rattle.store_rows.proofs.Seen.{sees_as}
use Rattle.store_rows.proofs.looking.next.Goals as goal

pub returns-clause-sees : goal.returns-clause-sees
returns-clause-sees g c = sees_as c.next.result (λ rows n is content means. is ∙ means.next) c.next.ensures.looks
