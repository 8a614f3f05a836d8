use Rattle.std.proofs.Common.{◌∙◌, sym}
use Rattle.character_sets.specs.Lines.{lines}
use Rattle.file_conversion.proofs.Written.{plain_next, plain_no_next}
use Rattle.file_conversion.proofs.converting.push_next.Goals as goal

pub returns-in-Ok-clause-text : goal.returns-in-Ok-clause-text
returns-in-Ok-clause-text c = plain_next c.args.set c.args.carry.items _ (lines c.args.units.now)
    (lines c.first_line-cut.result.rest.now) _ _ _ _ c.deref.ensures.value
    (sym c.is_plain.ensures ∙ c.if-not-is_plain.false) c.first_line-cut.ensures.lines c.in-Ok.ensures.ok

pub returns-clause-error : goal.returns-clause-error
returns-clause-error c = plain_no_next c.args.set c.args.carry.items _ (lines c.args.units.now)
    (lines c.first_line-cut.result.rest.now) _ _ _ c.in-Err.error c.deref.ensures.value
    (sym c.is_plain.ensures ∙ c.if-not-is_plain.false) c.first_line-cut.ensures.lines c.in-Err.ensures.error
