use Rattle.archive_tables.proofs.Placed.{not_added, not_made, one_more}
use Rattle.archive_tables.proofs.making.make_places.Goals as goal

pub returns-in-Err : goal.returns-in-Err
returns-in-Err g c = not_made g.S.Store c.args.token.now c.args.paths.now c.loop-path.path-index
    c.loop-path.made.items c.args.archive.now c.loop-path.archive c.make_place.new.archive c.path-item.result
    c.as_str-words.result.now c.in-Err.refusal c.loop-path-test.true c.path-item.is c.as_str-words.ensures
    c.loop-path.invariant c.in-Err.ensures

pub returns-then-lacks_room : goal.returns-then-lacks_room
returns-then-lacks_room g c = not_added g.S.Store c.args.token.now c.args.paths.now c.loop-path.path-index
    c.loop-path.made.items c.lacks_room.new.made.items c.args.archive.now c.loop-path.archive
    c.make_place.new.archive c.path-item.result c.as_str-words.result.now c.in-Ok.answer c.loop-path-test.true
    c.path-item.is c.as_str-words.ensures (c.lacks_room.ensures.same c.if-lacks_room.true) c.loop-path.invariant
    c.in-Ok.ensures

pub loop-path-preserved : goal.loop-path-preserved
loop-path-preserved g c = one_more g.S.Store c.args.token.now c.args.paths.now c.loop-path.path-index
    c.loop-path.made.items c.lacks_room.new.made.items c.args.archive.now c.loop-path.archive
    c.make_place.new.archive c.path-item.result c.as_str-words.result.now c.in-Ok.answer c.loop-path-test.true
    c.path-item.is c.as_str-words.ensures (c.lacks_room.ensures.added c.if-lacks_room.false) c.loop-path.invariant
    c.in-Ok.ensures
