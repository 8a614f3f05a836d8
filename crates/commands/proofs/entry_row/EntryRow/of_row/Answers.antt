use Rattle.std.proofs.Common.{map}
use Rattle.commands.proofs.Outcomes.{entry_read}
use Rattle.commands.proofs.entry_row.EntryRow.of_row.Goals as goal

pub returns : goal.returns
returns c = entry_read (map (λ f. f.now) c.args.fields.now) c.entry_of_fields.result c.entry_of_fields.ensures
