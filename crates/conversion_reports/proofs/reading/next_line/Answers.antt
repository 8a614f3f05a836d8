use Rattle.std.proofs.Common.{◌∙◌, ap}
use Rattle.conversion_reports.specs.Lines.{joins_at}
use Rattle.conversion_reports.proofs.Readings.{first_read}
use Rattle.conversion_reports.proofs.reading.next_line.Goals as goal

pub returns-clause-line : goal.returns-clause-line
returns-clause-line c = first_read c.args.set c.args.number _ _ _ c.args.units.now c.args.carry.items _ _ _ _ _ _ _
    c.first_line-cut.ensures.lines c.in_ok-body.ensures.line c.in_ok-body.ensures.carry c.in_ok-body.ensures.rest
    c.shown_number.ensures
    (c.joins_at-joins.ensures ∙ ap (λ us. joins_at us c.first_line-cut.result.body.now) c.deref.ensures.value)
    c.next_number.ensures
