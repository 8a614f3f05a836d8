use Rattle.archive_tables.proofs.RowsEntered.{rows_refused, shut_alike}
use Rattle.archive_tables.proofs.row_batches.enter_shut.Goals as goal

pub returns : goal.returns
returns g c = λ n input. rows_refused g.S.Store c.args.token n c.args.archive.now c.perform_batch.new.archive
    c.requires.shut _ c.perform_batch.result
    (shut_alike g.S.Store c.args.token 0 n c.args.archive.now c.perform_batch.new.archive c.requires.shut _
    c.perform_batch.result c.perform_batch.ensures) input
