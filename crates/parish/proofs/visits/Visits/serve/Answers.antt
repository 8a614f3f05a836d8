use Rattle.std.proofs.Common.{subst}
use Rattle.tasks.specs.Status.{Finishes}
use Rattle.parish.proofs.Ending.{visits_end}
use Rattle.parish.proofs.visits.Visits.serve.Goals as goal

pub returns : goal.returns
returns g c =
    let did = c.serve_pages-outcome.ensures in
    visits_end c.serve_pages-outcome.result _ c.status_of.result _ _ _ g.F.Write.contents g.F.Device.failed _ _
    (subst (λ o. Finishes g.F.Write.contents g.F.Device.failed o c.status_of.result c.args.faults.now
    c.status_of.new.faults) c.plain.ensures c.status_of.ensures)
    did.ok did.err did.failed
