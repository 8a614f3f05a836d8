use Rattle.std.proofs.Common.{◌≡◌, Err, ap}
use Rattle.page_batches.specs.Batches.{unplaced}
use Rattle.archive_tables.specs.Entering.{EntersOf}
use Rattle.archive_tables.proofs.Sourced.{by_number, entries_sourced, without_number}
use Rattle.archive_tables.proofs.entering.enter_entries.Goals as goal

pub returns-in-Number : goal.returns-in-Number
returns-in-Number g c = by_number g.S.Store c.args.archive.now c.enter_of.new.archive c.args.source.now
    _ c.in-Number.is
    (λ n. EntersOf g.S.Store c.args.token n c.args.entries.items c.args.archive.now c.enter_of.result
    c.enter_of.new.archive)
    (λ why. c.enter_of.result ≡ Err (unplaced why)) c.enter_of.ensures

pub returns-in-Ok : goal.returns-in-Ok
returns-in-Ok g c =
    let did = c.look_for_source.ensures in
    entries_sourced g.S.Store c.args.archive.now c.look_for_source.new.archive c.requires.kept did.reads
    c.args.source.now _ c.in-Reference.is c.look_for_source.result did.looked did.lost
    c.in-Ok.number c.in-Ok.is c.args.token c.enter_of-in-Ok.new.archive c.args.entries.items c.enter_of-in-Ok.result
    (λ why. c.enter_of-in-Ok.result ≡ Err (unplaced why)) c.enter_of-in-Ok.ensures

pub returns-in-Err : goal.returns-in-Err
returns-in-Err g c =
    let did = c.look_for_source.ensures in
    without_number g.S.Store c.args.archive.now c.look_for_source.new.archive c.requires.kept did.reads
    c.args.source.now _ c.in-Reference.is c.look_for_source.result did.looked did.lost
    c.in-Err.kind c.in-Err.is
    (λ n. EntersOf g.S.Store c.args.token n c.args.entries.items c.args.archive.now (Err c.unplaced.result)
    c.look_for_source.new.archive)
    (λ why. Err c.unplaced.result ≡ Err (unplaced why)) (ap Err c.unplaced.ensures)
