use Rattle.std.proofs.Common.{inr, refl}
use Rattle.archive_tables.proofs.RowsEntered.{whole_err, whole_ok}
use Rattle.archive_tables.proofs.row_batches.enter.Goals as goal

pub returns-in-Ok-clause-entered : goal.returns-in-Ok-clause-entered
returns-in-Ok-clause-entered g c =
    whole_ok _ c.args.token c.args.source.now _ c.args.archive.now c.enter_rows.new.archive
    c.enter_rows.result (c.enter_rows.ensures _ c.in-Ok.ensures.read)

pub returns-in-Ok-clause-refused : goal.returns-in-Ok-clause-refused
returns-in-Ok-clause-refused g c =
    whole_err _ c.args.token c.args.source.now _ c.args.archive.now c.enter_rows.new.archive
    _ c.enter_rows.result (c.enter_rows.ensures _ c.in-Ok.ensures.read)

pub returns-in-Err-clause-refused : goal.returns-in-Err-clause-refused
returns-in-Err-clause-refused g c = inr (refl, (c.in-Err.ensures.refused, c.in-Err.ensures.failed))
