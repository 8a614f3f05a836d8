use Rattle.std.proofs.lemmas.Fmt.{decimal_digit}
use Rattle.std.proofs.lemmas.Result.{on_err_weaker, on_ok_weaker}
use Rattle.gedcom_line.proofs.Beginnings.{level_begun, level_ends, level_stops}
use Rattle.gedcom_line.proofs.line.write.+push_level.Goals as goal
use Rattle.list_laws.proofs.Outcomes.{on_err}

pub returns-then-level-lt10-clause-ok : goal.returns-then-level-lt10-clause-ok
returns-then-level-lt10-clause-ok t c = rw (decimal_digit c.args.level c.if-level-lt10.true) c.push_digit.ensures.ok

pub returns-in_err-push_level-clause-err : goal.returns-in_err-push_level-clause-err
returns-in_err-push_level-clause-err t c = on_err c.from_residual.result
    (level_begun _ _ c.args.level c.if-level-lt10.false c.ranges.level.fits c.in_err-push_level.ensures.err)

pub returns-clause-ok : goal.returns-clause-ok
returns-clause-ok t c = on_ok_weaker c.push_digit-2.result
    (λ e. level_ends _ _ _ c.args.level c.if-level-lt10.false c.ranges.level.fits c.in_ok-push_level.ensures.ok e)
    c.push_digit-2.ensures.ok

pub returns-clause-err : goal.returns-clause-err
returns-clause-err t c = on_err_weaker c.push_digit-2.result
    (λ e. level_stops _ _ _ c.args.level c.if-level-lt10.false c.ranges.level.fits c.in_ok-push_level.ensures.ok e)
    c.push_digit-2.ensures.err
