use Rattle.store_rows.proofs.SpansAside.{spans_kept}
use Rattle.store_rows.proofs.laws.written_spans_are_those_of_the_records.Goals as goal

pub returns : goal.returns
returns c = spans_kept
