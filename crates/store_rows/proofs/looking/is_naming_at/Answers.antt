use Rattle.std.proofs.Common.{Ok, ap, ◌∙◌}
use Rattle.store_rows.specs.Links.{names_at}
use Rattle.store_rows.proofs.Seen.{sees_from}
use Rattle.store_rows.proofs.looking.is_naming_at.Goals as goal

pub returns-clause-sees : goal.returns-clause-sees
returns-clause-sees g c =
    sees_from (Ok _) c.in_ok-found.ensures.sees
    (λ content at. c.is_naming_found-is.ensures ∙ ap (names_at c.args.named) at) tt
