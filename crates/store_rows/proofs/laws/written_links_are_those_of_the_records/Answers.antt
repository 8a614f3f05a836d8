use Rattle.store_rows.proofs.SpansAside.{links_kept}
use Rattle.store_rows.proofs.laws.written_links_are_those_of_the_records.Goals as goal

pub returns : goal.returns
returns c = links_kept
