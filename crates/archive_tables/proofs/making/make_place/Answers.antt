use Rattle.std.proofs.Common.{◌∙◌, Ok, ap, refl}
use Rattle.archive_tables.proofs.Placed.{no_parent, not_looked, place_asked}
use Rattle.archive_tables.proofs.making.make_place.Goals as goal

pub returns-in-Ok-Ok : goal.returns-in-Ok-Ok
returns-in-Ok-Ok g c = place_asked g.S.Store c.args.token.now c.args.path.now c.args.archive.now
    c.look_for_parent.new.archive c.look_for_parent.ensures.reads c.look_for_parent.result
    c.look_for_parent.ensures.looked c.look_for_parent.ensures.lost c.in-Ok-Ok.parent
    (c.in-Ok-Ok.is ∙ ap Ok c.in-Ok-Ok.field-0-is)
    c.ask_place.result c.ask_place.new.archive c.ask_place.ensures

pub returns-in-Ok-Err : goal.returns-in-Ok-Err
returns-in-Ok-Err g c = no_parent g.S.Store c.args.token.now c.args.path.now c.args.archive.now
    c.look_for_parent.new.archive c.look_for_parent.ensures.reads c.look_for_parent.result
    c.look_for_parent.ensures.looked c.look_for_parent.ensures.lost c.in-Ok-Err.kind
    (c.in-Ok-Err.is ∙ ap Ok c.in-Ok-Err.field-0-is) _ refl

pub returns-in-Err : goal.returns-in-Err
returns-in-Err g c = not_looked g.S.Store c.args.token.now c.args.path.now c.args.archive.now
    c.look_for_parent.new.archive c.look_for_parent.ensures.reads c.look_for_parent.result
    c.look_for_parent.ensures.looked c.look_for_parent.ensures.lost c.in-Err.kind c.in-Err.is _ refl
