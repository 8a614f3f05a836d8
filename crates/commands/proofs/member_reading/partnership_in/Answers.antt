use Rattle.std.proofs.Common.{ap, Some, None}
use Rattle.record_text.specs.declared.refusal.RefusalKind.TheVariants.{BadRow}
use Rattle.record_fields.proofs.Worded.{partnership_read}
use Rattle.commands.specs.Rows.{ok_or, partnership_in}
use Rattle.commands.proofs.member_reading.partnership_in.Goals as goal

pub returns-in-Some : goal.returns-in-Some
unfolding partnership_in
returns-in-Some c = ap (ok_or BadRow)
    (partnership_read c.args.field.now (Some c.in-Some.partnership) c.in-Some.ensures)

pub returns-in-None : goal.returns-in-None
unfolding partnership_in
returns-in-None c = ap (ok_or BadRow) (partnership_read c.args.field.now None c.in-None.ensures)
