use Rattle.staged_rows.proofs.Links.{links_are_from}
use Rattle.staged_rows.proofs.laws.links_of_an_import_are_from_its_numbers.Goals as goal

pub returns : goal.returns
returns c = links_are_from
