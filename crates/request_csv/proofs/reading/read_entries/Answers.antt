use Rattle.request_csv.proofs.OnTheWay.{told_so}
use Rattle.request_csv.proofs.reading.read_entries.Goals as goal

pub returns-in-Err-clause-refused : goal.returns-in-Err-clause-refused
returns-in-Err-clause-refused g c = told_so _ c.in-Err.why c.blamed.result c.blamed.ensures c.in-Err.ensures.refused
