use Rattle.std.proofs.Common.{ap, Some, None}
use Rattle.record_text.specs.declared.refusal.RefusalKind.TheVariants.{BadRow}
use Rattle.commands.specs.Rows.{ok_or}
use Rattle.commands.proofs.Items.{item_found}
use Rattle.page_entries.proofs.digits.item_of.Goals as goal

pub returns-in-Some : goal.returns-in-Some
returns-in-Some c = ap (ok_or BadRow) (item_found c.args.number (Some c.in-Some.item) c.in-Some.ensures)

pub returns-in-None : goal.returns-in-None
returns-in-None c = ap (ok_or BadRow) (item_found c.args.number None c.in-None.ensures)
