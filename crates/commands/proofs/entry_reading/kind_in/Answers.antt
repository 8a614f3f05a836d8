use Rattle.std.proofs.Common.{ap, Some, None}
use Rattle.record_text.specs.declared.refusal.RefusalKind.TheVariants.{BadRow}
use Rattle.record_fields.proofs.Worded.{entry_kind_read}
use Rattle.commands.specs.Rows.{ok_or, kind_in}
use Rattle.commands.proofs.entry_reading.kind_in.Goals as goal

pub returns-in-Some : goal.returns-in-Some
unfolding kind_in
returns-in-Some c = ap (ok_or BadRow) (entry_kind_read c.args.field.now (Some c.in-Some.kind) c.in-Some.ensures)

pub returns-in-None : goal.returns-in-None
unfolding kind_in
returns-in-None c = ap (ok_or BadRow) (entry_kind_read c.args.field.now None c.in-None.ensures)
