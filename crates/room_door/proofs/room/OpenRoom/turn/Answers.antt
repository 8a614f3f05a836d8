use Rattle.std.proofs.Common.{refl, inr}
use Rattle.room_door.proofs.Turned.{stay_right}
use Rattle.room_door.proofs.room.OpenRoom.turn.Goals as goal

pub returns-in-On-clause-back : goal.returns-in-On-clause-back
returns-in-On-clause-back g c = (_, refl, c.sit_again.ensures.sits)

pub returns-in-Waits-clause-back : goal.returns-in-Waits-clause-back
returns-in-Waits-clause-back g c = (_, refl, c.sit.ensures.sits)

pub returns-in-Lost-clause-back : goal.returns-in-Lost-clause-back
returns-in-Lost-clause-back g c = (c.args.seat, refl, inr (λ place. refl))

pub returns-in-On-clause-right : goal.returns-in-On-clause-right
returns-in-On-clause-right g c honest all right =
    stay_right _ c.args.self.now.visitors c.sit_again.new.self.visitors _ all (c.in-On.ensures.right honest right)
    c.sit_again.ensures.sits

pub returns-in-Waits-clause-right : goal.returns-in-Waits-clause-right
returns-in-Waits-clause-right g c honest all right =
    stay_right _ c.args.self.now.visitors c.sit.new.self.visitors _ all (c.in-Waits.ensures.right honest right)
    c.sit.ensures.sits
