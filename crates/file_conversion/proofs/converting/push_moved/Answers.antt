use Rattle.character_sets.specs.Lines.{lines}
use Rattle.file_conversion.proofs.Written.{next_text, no_next}
use Rattle.file_conversion.proofs.converting.push_moved.Goals as goal

pub returns-in-Ok-clause-text : goal.returns-in-Ok-clause-text
returns-in-Ok-clause-text c = next_text c.args.set c.args.carry.items c.in_ok-body.field-0.carry.items
    (lines c.args.units.now) (lines c.in_ok-body.field-0.rest.now) _ _ _ _ _ c.in_ok-body.ensures.line
    c.deref.ensures.value c.in-Ok.ensures.ok

pub returns-clause-error : goal.returns-clause-error
returns-clause-error c = no_next c.args.set c.args.carry.items c.in_ok-body.field-0.carry.items
    (lines c.args.units.now) (lines c.in_ok-body.field-0.rest.now) _ _ _ _ c.in-Err.error c.in_ok-body.ensures.line
    c.deref.ensures.value c.in-Err.ensures.error
