use Rattle.std.proofs.Common.{rules}
use Rattle.sqlite.specs.Held.{state}
use Rattle.store_tables.proofs.ReadingRows.{looks_lost}
use Rattle.store_tables.proofs.Showing.{shows_records}
use Rattle.store_tables.proofs.reading.read_records_by_batch.Goals as goal

pub returns-in_err-records-clause-looks : goal.returns-in_err-records-clause-looks
returns-in_err-records-clause-looks g c =
    looks_lost c.from_residual-in_err-records.result (search rules) c.in_ok-batches.ensures.looks
    c.in_err-records.ensures.looks

pub returns-clause-shown : goal.returns-clause-shown
returns-clause-shown g c clean has_spans has =
    let clean_one = c.in_ok-records.ensures.looks.clean clean in
    shows_records (state g.S.Store c.args.conn.now) (state g.S.Store c.read_batches.new.conn)
    (state g.S.Store c.read_records.new.conn) _ _ has_spans has (c.in_ok-batches.ensures.shown clean_one has_spans has)
    (c.in_ok-records.ensures.shown clean has_spans)
