use Rattle.std.proofs.Common.{◌≡◌, Err, [], ap}
use Rattle.page_batches.specs.Batches.{unplaced}
use Rattle.archive_tables.specs.Making.{EntersLacking}
use Rattle.archive_tables.proofs.Sourced.{by_number, lacking_sourced, without_number}
use Rattle.archive_tables.proofs.making.enter_sourced.Goals as goal

pub returns-in-Number : goal.returns-in-Number
returns-in-Number g c = by_number g.S.Store c.args.archive.now c.enter_lacking.new.archive c.args.source.now
    _ c.in-Number.is
    (λ n. EntersLacking g.S.Store c.args.token n c.args.order c.args.bytes.now c.args.entries.items
    c.args.archive.now c.enter_lacking.new.made.items c.enter_lacking.result c.enter_lacking.new.archive)
    (λ why. (c.enter_lacking.new.made.items ≡ []) × (c.enter_lacking.result ≡ Err (unplaced why)))
    c.enter_lacking.ensures

pub returns-in-Ok : goal.returns-in-Ok
returns-in-Ok g c =
    let did = c.look_for_source.ensures in
    let more = c.enter_lacking-in-Ok in
    lacking_sourced g.S.Store c.args.archive.now c.look_for_source.new.archive c.requires.kept did.reads
    c.args.source.now _ c.in-Reference.is c.look_for_source.result did.looked did.lost
    c.in-Ok.number c.in-Ok.is c.args.token more.new.archive c.args.order c.args.bytes.now c.args.entries.items
    more.new.made.items more.result
    (λ why. (more.new.made.items ≡ []) × (more.result ≡ Err (unplaced why))) more.ensures

pub returns-in-Err : goal.returns-in-Err
returns-in-Err g c =
    let did = c.look_for_source.ensures in
    without_number g.S.Store c.args.archive.now c.look_for_source.new.archive c.requires.kept did.reads
    c.args.source.now _ c.in-Reference.is c.look_for_source.result did.looked did.lost
    c.in-Err.kind c.in-Err.is
    (λ n. EntersLacking g.S.Store c.args.token n c.args.order c.args.bytes.now c.args.entries.items
    c.args.archive.now c.args.made.now.items (Err c.unplaced.result) c.look_for_source.new.archive)
    (λ why. (c.args.made.now.items ≡ []) × (Err c.unplaced.result ≡ Err (unplaced why)))
    (c.requires.none, ap Err c.unplaced.ensures)
