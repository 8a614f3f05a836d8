use Rattle.std.proofs.Common.{Ok, sym, subst}
use Rattle.store_rows.specs.Finding.{IsClimbFrom}
use Rattle.store_rows.proofs.Found.{sees_then, sees_where}
use Rattle.store_rows.proofs.Seen.{sees_from}
use Rattle.store_rows.proofs.finding.+has_path.Goals as goal

pub returns-in-Ended-clause-sees : goal.returns-in-Ended-clause-sees
returns-in-Ended-clause-sees t g c =
    sees_from (Ok _) c.in_ok-found.ensures.sees
    (λ content at. subst (IsClimbFrom c.in_ok-found.found c.args.number c.args.path.now) c.in-Ended.is
    c.climbed.ensures.tells content.records (sym at)) tt

pub returns-in-Above-clause-sees : goal.returns-in-Above-clause-sees
returns-in-Above-clause-sees t g c =
    sees_where c.has_path.result
    (λ content is both. subst (IsClimbFrom c.in_ok-found.found c.args.number c.args.path.now) c.in-Above.is
    c.climbed.ensures.tells content.records (sym both.0) is both.1)
    (sees_then c.in_ok-found.ensures.sees c.has_path.ensures.sees)
