-- What is written can be read again.
use Rattle.store_rows.proofs.Written.{shallow_applied}
use Rattle.store_rows.proofs.writing.write_changes.Goals as goal

pub returns-in-Ok-clause-shallow : goal.returns-in-Ok-clause-shallow
returns-in-Ok-clause-shallow g c content all = shallow_applied c.args.changes.now content c.in-Ok.ensures.shallow all
