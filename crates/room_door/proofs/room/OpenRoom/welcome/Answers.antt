use Rattle.room_door.proofs.Turned.{stay_right}
use Rattle.room_door.proofs.room.OpenRoom.welcome.Goals as goal

pub returns-then-is_ok : goal.returns-then-is_ok
returns-then-is_ok g c = record {
  right = λ answer all. stay_right answer c.args.self.now.visitors c.sit.new.self.visitors _ all
      (c.new-visitor.ensures.right answer) c.sit.ensures.sits;
}
