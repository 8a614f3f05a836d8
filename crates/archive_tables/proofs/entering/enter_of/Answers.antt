use Rattle.std.proofs.Common.{List, subst}
use Rattle.sqlite.specs.Held.{state}
use Rattle.page_batches.specs.Looks.{looks_of}
use Rattle.page_entries.specs.declared.entries.PageEntry.{PageEntry}
use Rattle.archive_tables.specs.Ends.{OnRead}
use Rattle.archive_tables.specs.Looking.{AreLooked}
use Rattle.archive_tables.proofs.Entered.{page_entered, page_refused}
use Rattle.archive_tables.proofs.entering.enter_of.Goals as goal

pub returns-in-Ok : goal.returns-in-Ok
returns-in-Ok g c =
    let did = c.look_for_places.ensures in
    let old = c.args.archive.now in
    let new = c.look_for_places.new.archive in
    let looked = subst (λ (entries : List PageEntry). OnRead (state g.S.Store old.conn) (state g.S.Store new.conn)
    (λ of. AreLooked c.look_for_places.result (looks_of of c.args.token c.args.source entries)))
    c.deref.ensures.value did.looked in
    page_entered g.S.Store old new c.enter_found.new.archive c.requires.kept did.reads c.args.token c.args.source
    c.args.entries.items c.look_for_places.result looked did.lost c.in-Ok.found c.in-Ok.is c.enter_found.result
    c.enter_found.ensures

pub returns-in-Err : goal.returns-in-Err
returns-in-Err g c =
    let did = c.look_for_places.ensures in
    let old = c.args.archive.now in
    let new = c.look_for_places.new.archive in
    let looked = subst (λ (entries : List PageEntry). OnRead (state g.S.Store old.conn) (state g.S.Store new.conn)
    (λ of. AreLooked c.look_for_places.result (looks_of of c.args.token c.args.source entries)))
    c.deref.ensures.value did.looked in
    page_refused g.S.Store old new new c.requires.kept did.reads c.args.token c.args.source c.args.entries.items
    c.look_for_places.result looked did.lost c.in-Err.kind c.in-Err.is c.unplaced.result c.unplaced.ensures
