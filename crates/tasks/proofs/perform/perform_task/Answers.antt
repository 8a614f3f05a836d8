use Rattle.std.proofs.Common.{◌≡◌, subst}
use Rattle.std.specs.Prelude.{MatchBool}
use Rattle.tasks.specs.Status.{Finishes}
use Rattle.tasks.specs.Stopping.{is_said}
use Rattle.tasks.specs.declared.stopping.Reporting.{Reporting}
use Rattle.tasks.proofs.perform.perform_task.Goals as goal

pub returns : goal.returns
returns g c = record {
  outcome = c.try_task-outcome.result.0;
  between = c.try_task-outcome.new.faults;
  does = c.try_task-outcome.ensures.does;
  reopen = c.try_task-outcome.ensures.reopen;
  finishes = subst
      (λ (reporting : Reporting). MatchBool (is_said reporting c.try_task-outcome.result.0)
      ((c.conclude.result ≡ 1) × (c.conclude.new.faults ≡ c.try_task-outcome.new.faults))
      (Finishes g.F.Write.contents g.F.Device.failed c.try_task-outcome.result.0 c.conclude.result
      c.try_task-outcome.new.faults c.conclude.new.faults)) c.reporting_of-reporting.ensures c.conclude.ensures;
}
