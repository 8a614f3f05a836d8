use Rattle.std.proofs.Common.{sym, subst}
use Rattle.command_checks.specs.Exact.{IsExact}
use Rattle.archive_steps.proofs.Exactness.{kept_is_exact}
use Rattle.archive_core.proofs.machine.decide_anew.Goals as goal

pub returns-clause-exact : goal.returns-clause-exact
returns-clause-exact g c honest =
    let made = c.in_ok-changes.ensures.exact honest in (
      made.0,
      λ held shown.
          let before = g.V.View.content held in
          let done = made.1 held shown in
          (done.0, subst (IsExact before) (sym c.with_receipt.ensures) (kept_is_exact before _ _ done.1)),
    )
