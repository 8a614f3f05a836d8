use Rattle.std.proofs.Common.{◌∙◌, subst, sym}
use Rattle.visitors.specs.Places.{AreRight}
use Rattle.room_door.proofs.room.OpenRoom.go_round.Goals as goal

pub turns-preserved : goal.turns-preserved
turns-preserved g c = record {
  same = c.hear.ensures.same ∙ c.turns.invariant.same;
  right = λ honest all. subst (λ r. AreRight (g.A.Answering.answers r.now) c.hear.new.self.visitors)
      c.turns.invariant.same
      (c.hear.ensures.right (subst (λ r. g.A.Answering.is_honest r.now) (sym c.turns.invariant.same) honest)
      (subst (λ r. AreRight (g.A.Answering.answers r.now) c.turns.self.visitors) (sym c.turns.invariant.same)
      (c.turns.invariant.right honest all)));
}

pub returns-in_err-hear : goal.returns-in_err-hear
returns-in_err-hear g c = record {
  right = λ honest all. subst (λ r. AreRight (g.A.Answering.answers r.now) c.hear.new.self.visitors)
      c.turns.invariant.same
      (c.hear.ensures.right (subst (λ r. g.A.Answering.is_honest r.now) (sym c.turns.invariant.same) honest)
      (subst (λ r. AreRight (g.A.Answering.answers r.now) c.turns.self.visitors) (sym c.turns.invariant.same)
      (c.turns.invariant.right honest all)));
}

pub returns : goal.returns
returns g c = record {
  right = λ honest all. c.let_in.ensures.right _ (c.close_late.ensures.right _ (c.turns.invariant.right honest all));
}
