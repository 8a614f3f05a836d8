use Rattle.std.proofs.Common.{◌∙◌, ap}
use Rattle.character_sets.specs.Lines.{lines}
use Rattle.file_conversion.specs.Charsets.{said_in}
use Rattle.conversion_reports.proofs.Pieces.{units_is}
use Rattle.conversion_reports.proofs.report.push_units.Goals as goal

pub returns-clause-report : goal.returns-clause-report
returns-clause-report c = units_is c.args.set c.args.left _ c.args.units.now _ _ _ _ _ _ _ c.in_ok-named.ensures
    (c.deref.ensures.value ∙ c.in_ok-chars.ensures.words) (c.deref-2.ensures.value ∙ c.in_ok-chars.ensures.changed)
    (c.deref-3.ensures.value ∙ (c.in_ok-told.ensures
    ∙ ap (λ n. said_in n _ (lines c.args.units.now)) c.in_ok-named.ensures))
    c.in_ok-push_char.ensures c.in_ok-push_left.ensures c.in_ok-push_said.ensures

pub returns-clause-told : goal.returns-clause-told
returns-clause-told c = c.in_ok-told.ensures ∙ ap (λ n. said_in n _ (lines c.args.units.now)) c.in_ok-named.ensures
