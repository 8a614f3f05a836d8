use Rattle.std.proofs.Common.{Err, ap}
use Rattle.archive_tables.specs.RowBatches.{EntersOf, HasNoSource}
use Rattle.archive_tables.proofs.RowsEntered.{kept_where_free}
use Rattle.archive_tables.proofs.Sourced.{batch_sourced, by_number, without_number}
use Rattle.archive_tables.proofs.row_batches.enter_open.Goals as goal

pub returns-in-Number : goal.returns-in-Number
returns-in-Number g c = λ input all. by_number g.S.Store c.args.archive.now c.enter_of.new.archive c.args.source.now
    _ c.in-Number.is
    (λ n. EntersOf g.S.Store c.args.token n input c.args.archive.now c.enter_of.result c.enter_of.new.archive)
    (HasNoSource input c.enter_of.result) (c.enter_of.ensures input all)

pub look_for_source-requires : goal.look_for_source-requires
look_for_source-requires g c = record { kept = kept_where_free c.args.archive.now c.requires.takes }

pub returns-in-Ok : goal.returns-in-Ok
returns-in-Ok g c = λ input all.
    let did = c.look_for_source.ensures in
    batch_sourced g.S.Store c.args.archive.now c.look_for_source.new.archive
    (kept_where_free c.args.archive.now c.requires.takes) did.reads c.args.source.now _
    c.in-Reference.is c.look_for_source.result did.looked did.lost c.in-Ok.number c.in-Ok.is c.args.token
    c.enter_of-in-Ok.new.archive input c.args.rows all c.requires.takes c.enter_of-in-Ok.result
    (HasNoSource input c.enter_of-in-Ok.result) (c.enter_of-in-Ok.ensures input all)

pub returns-in-Err : goal.returns-in-Err
returns-in-Err g c = λ input all.
    let did = c.look_for_source.ensures in
    without_number g.S.Store c.args.archive.now c.look_for_source.new.archive
    (kept_where_free c.args.archive.now c.requires.takes) did.reads c.args.source.now _
    c.in-Reference.is c.look_for_source.result did.looked did.lost c.in-Err.kind c.in-Err.is
    (λ n. EntersOf g.S.Store c.args.token n input c.args.archive.now (Err c.from.result) c.look_for_source.new.archive)
    (HasNoSource input (Err c.from.result)) (ap Err c.from.ensures, (c.args.rows, all))
