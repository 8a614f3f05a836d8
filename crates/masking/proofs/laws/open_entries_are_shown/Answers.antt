use Rattle.masking.proofs.Showing.{open_entry, closed_entry}
use Rattle.masking.proofs.laws.open_entries_are_shown.Goals as goal

pub returns-clause-shown : goal.returns-clause-shown
returns-clause-shown c = open_entry

pub returns-clause-gone : goal.returns-clause-gone
returns-clause-gone c = closed_entry
