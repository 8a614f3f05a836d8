use Rattle.room_door.proofs.turns.go_on.Goals as goal

pub returns-in-Waits-clause-visit : goal.returns-in-Waits-clause-visit
returns-in-Waits-clause-visit g c input start honest visit =
    c.in-Waits.ensures.visit input start honest (c.calls.invariant.visit input start honest visit)

pub returns-in-Lost-clause-visit : goal.returns-in-Lost-clause-visit
returns-in-Lost-clause-visit g c input start honest visit =
    c.in-Lost.ensures.visit input start honest (c.calls.invariant.visit input start honest visit)

pub calls-preserved : goal.calls-preserved
calls-preserved g c = record {
  visit = λ input start honest visit. c.in-On.ensures.visit input start honest
      (c.calls.invariant.visit input start honest visit);
  right = λ honest right. c.in-On.ensures.right honest (c.calls.invariant.right honest right);
}
