use Rattle.std.proofs.Common.{◌∙◌, sym}
use Rattle.conversion_reports.specs.declared.kinds.Kind.TheVariants.{Other, Joined, Stray, Replaced, Marked}
use Rattle.conversion_reports.proofs.Plain.{plain_leads}
use Rattle.conversion_reports.proofs.tallies.add_next.Goals as goal

pub returns-then-is_plain-clause-other : goal.returns-then-is_plain-clause-other
returns-then-is_plain-clause-other c all h = plain_leads Other c.args.set _ _ _ c.args.carry.items _
    c.args.units.now c.first_line-cut.result.rest.now _ _ _ all c.deref.ensures.value
    (sym c.is_plain.ensures ∙ c.if-is_plain.true) c.first_line-cut.ensures.lines c.next_number.ensures h

pub returns-then-is_plain-clause-joined : goal.returns-then-is_plain-clause-joined
returns-then-is_plain-clause-joined c all h = plain_leads Joined c.args.set _ _ _ c.args.carry.items _
    c.args.units.now c.first_line-cut.result.rest.now _ _ _ all c.deref.ensures.value
    (sym c.is_plain.ensures ∙ c.if-is_plain.true) c.first_line-cut.ensures.lines c.next_number.ensures h

pub returns-then-is_plain-clause-stray : goal.returns-then-is_plain-clause-stray
returns-then-is_plain-clause-stray c all h = plain_leads Stray c.args.set _ _ _ c.args.carry.items _
    c.args.units.now c.first_line-cut.result.rest.now _ _ _ all c.deref.ensures.value
    (sym c.is_plain.ensures ∙ c.if-is_plain.true) c.first_line-cut.ensures.lines c.next_number.ensures h

pub returns-then-is_plain-clause-replaced : goal.returns-then-is_plain-clause-replaced
returns-then-is_plain-clause-replaced c all h = plain_leads Replaced c.args.set _ _ _ c.args.carry.items _
    c.args.units.now c.first_line-cut.result.rest.now _ _ _ all c.deref.ensures.value
    (sym c.is_plain.ensures ∙ c.if-is_plain.true) c.first_line-cut.ensures.lines c.next_number.ensures h

pub returns-then-is_plain-clause-marked : goal.returns-then-is_plain-clause-marked
returns-then-is_plain-clause-marked c all h = plain_leads Marked c.args.set _ _ _ c.args.carry.items _
    c.args.units.now c.first_line-cut.result.rest.now _ _ _ all c.deref.ensures.value
    (sym c.is_plain.ensures ∙ c.if-is_plain.true) c.first_line-cut.ensures.lines c.next_number.ensures h
