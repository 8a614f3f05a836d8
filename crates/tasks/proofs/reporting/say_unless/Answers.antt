use Rattle.std.proofs.Common.{subst}
use Rattle.tasks.specs.Faults.{IsReported}
use Rattle.tasks.proofs.reporting.say_unless.Goals as goal

pub returns-then-status-eq0-clause-none : goal.returns-then-status-eq0-clause-none
returns-then-status-eq0-clause-none g c = λ none. (
  λ zero. subst (IsReported g.F.Write.contents g.F.Device.failed c.args.faults.now c.report.new.self)
      c.as_bytes.ensures.value c.report.ensures,
  λ other. absurd (other c.if-status-eq0.true),
)
