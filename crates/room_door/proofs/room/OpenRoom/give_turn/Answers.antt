use Rattle.std.proofs.Common.{◌∙◌, sym}
use Rattle.room_door.proofs.Turned.{came_back, gone, unmoved}
use Rattle.room_door.proofs.room.OpenRoom.give_turn.Goals as goal

pub returns-in_err-now-clause-turn : goal.returns-in_err-now-clause-turn
returns-in_err-now-clause-turn g c = unmoved c.args.self.now.visitors c.args.place

pub returns-in-Some-clause-turn : goal.returns-in-Some-clause-turn
returns-in-Some-clause-turn g c =
    came_back c.args.self.now.visitors c.take.new.self c.turn.new.self.visitors c.args.place c.in-Some.seat
    (sym c.take.ensures.value ∙ c.in-Some.is) c.take.ensures.left c.in-Some.ensures.next c.turn.ensures.back

pub returns-in-Some-clause-right : goal.returns-in-Some-clause-right
returns-in-Some-clause-right g c honest all =
    c.turn.ensures.right honest (c.take.ensures.right _ all) (c.in-Some.ensures.taken _ all)

pub returns-in-None-clause-turn : goal.returns-in-None-clause-turn
returns-in-None-clause-turn g c = gone c.args.self.now.visitors c.take.new.self c.args.place c.take.ensures.left
