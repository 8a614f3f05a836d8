use Rattle.plain_export.proofs.Splitting.{is_noted}
use Rattle.plain_export.proofs.laws.an_entry_without_a_link_is_noted.Goals as goal

pub returns : goal.returns
returns c = is_noted
