use Rattle.std.proofs.Common.{sym, ap, ◌∙◌}
use Rattle.command_checks.specs.Fits.{measured}
use Rattle.command_checks.proofs.Within.{within_not_below}
use Rattle.command_checks.proofs.paths.+is_within.Goals as goal

pub returns-then-above-number-clause-decides : goal.returns-then-above-number-clause-decides
returns-then-above-number-clause-decides g t c = λ honest.
    let seen = c.in_ok-record_at.ensures.shows honest in (
      seen.0,
      λ held shown.
          let at = seen.1 held shown in (
            at.0,
            sym (within_not_below c.args.parts c.args.bytes (g.V.View.content held).records c.args.number
                c.in-Some-parent.above c.in-Some.own
                (sym (ap measured at.1) ∙ sym c.in-Some.ensures) c.in-Some-parent.is c.if-above-number.true),
          ),
    )
