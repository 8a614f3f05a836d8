use Rattle.std.proofs.Common.{◌≡◌, false}
use Rattle.archive_tables.proofs.RowsEntered.{broken_as, kept_where_free, refused_by_looks, rows_entered}
use Rattle.archive_tables.proofs.row_batches.enter_of.Goals as goal

pub look_for_numbers-requires : goal.look_for_numbers-requires
look_for_numbers-requires g c =
    record { kept = kept_where_free c.args.archive.now c.requires.takes }

pub returns-in-Ok : goal.returns-in-Ok
returns-in-Ok g c = λ input all.
    let old = c.args.archive.now in
    let looked = c.look_for_numbers.new.archive in
    let free = c.requires.takes in
    let did = c.look_for_numbers.ensures in
    let found = rw c.in-Ok.is at did.looked in
    let kept : looked.is_lost ≡ false = broken_as _ _ _ did.lost c.in-Ok.is in
    rows_entered g.S.Store c.args.token c.args.source c.args.rows old looked c.enter_numbered.new.archive free
    (kept_where_free old free) did.reads kept c.in-Ok.numbers.items found c.enter_numbered.result input all
    (rw c.as_slice.ensures.value at (c.enter_numbered.ensures all.0 all.2))

pub returns-in-Err : goal.returns-in-Err
returns-in-Err g c = λ input all.
    let old = c.args.archive.now in
    let looked = c.look_for_numbers.new.archive in
    let did = c.look_for_numbers.ensures in
    let found = rw c.in-Err.is at did.looked in
    let lost = broken_as _ _ _ did.lost c.in-Err.is in
    refused_by_looks g.S.Store c.args.token c.args.source old looked did.reads c.in-Err.kind found lost c.from.result
    c.from.ensures input c.args.rows all
