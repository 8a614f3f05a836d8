-- Who is there after a turn.
use Rattle.std.proofs.Common.{◌≡◌, ◌∙◌, ◌⊎◌, ℕ, Option, Some, None, sym, ap, refl, subst, inl, inr}
use Rattle.std.specs.Prelude.{unwrap_or}
use Rattle.slab.specs.Slab.{Updates, get}
use Rattle.room_requests.specs.Visits.{Answering}
use Rattle.visitors.specs.Lives.{IsRight}
use Rattle.visitors.specs.Places.{AreRight, Left, Sits, at, next_of}
use Rattle.visitors.specs.declared.visitors.Seat.{Seat}
use Rattle.visitors.specs.declared.visitors.Visitors.{Visitors}
use Rattle.visitors.proofs.Seated.{comes}
use Rattle.room_door.specs.Sitting.{ComesBack, IsTurn, MaySit}

module _ {S : Type 0} where
  -- nobody moved
  pub unmoved : (v : Visitors S) (place : ℕ) → IsTurn v v place
  unmoved v place = record { others = λ other differs. refl; line = λ now is. (now, is, refl) }

  -- nobody is there now
  pub gone : (old new : Visitors S) (place : ℕ) → Left old new place → IsTurn old new place
  gone old new place left =
      record {
        others = λ other differs. left.others other differs;
        line = λ now is. let never : None ≡ Some now = sym left.changed ∙ is in absurd (cc);
      }

  some_line : (one now : Seat S) → Some one ≡ Some now → now.line ≡ one.line
  some_line one now same = sym (ap (λ (o : Option (Seat S)). (unwrap_or o one).line) same)

  -- who was there sits there again, or is gone
  turned : (old mid new : Visitors S) (place : ℕ) (was one : Seat S) → at old place ≡ Some was
      → Left old mid place → next_of mid ≡ place → one.line ≡ was.line → MaySit mid new one → IsTurn old new place
  turned old mid new place was one is left next line (inr same) =
      record {
        others = λ other differs. same other ∙ left.others other differs;
        line = λ now there. let never : None ≡ Some now = sym left.changed ∙ sym (same place) ∙ there in absurd (cc);
      }
  turned old mid new place was one is left next line (inl sits) =
      let sat : Sits mid new place one = subst (λ n. Sits mid new n one) next sits in
      record {
        others = λ other differs. sat.others other differs ∙ left.others other differs;
        line = λ now there. (was, is, some_line one now (sym sat.changed ∙ there) ∙ line);
      }

  pub came_back : (old mid new : Visitors S) (place : ℕ) (was : Seat S) → at old place ≡ Some was
      → Left old mid place → next_of mid ≡ place → ComesBack mid new was → IsTurn old new place
  came_back old mid new place was is left next back =
      turned old mid new place was back.0 is left next back.1 back.2

  -- all stay right
  pub stay_right : (answer : Answering) (old new : Visitors S) (one : Seat S) → AreRight answer old
      → IsRight answer one.visitor → MaySit old new one → AreRight answer new
  stay_right answer old new one all right (inl sits) =
      comes (λ seat. IsRight answer seat.visitor) old.seats new.seats (next_of old) one all right sits
  stay_right answer old new one all right (inr same) = λ place seat is. all place seat (sym (same place) ∙ is)
