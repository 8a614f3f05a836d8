use Rattle.std.proofs.Common.{refl, inr}
use Rattle.store_rows.proofs.SidesRead.{new_alone, no_more_pairs, one_more_change}
use Rattle.store_rows.proofs.sides.paired.Goals as goal

pub returns-then-side-clause-refused : goal.returns-then-side-clause-refused
returns-then-side-clause-refused c =
    inr (
      refl,
      c.sides.invariant.none_else
          (new_alone c.in-Some.side c.sides.sides.items c.pop_front.new.self.items c.in-Some.ensures.items
          c.if-side.true),
    )

pub sides-preserved : goal.sides-preserved
sides-preserved c =
    let side = c.in-Some.side in
    let front = c.sides.sides.items in
    let rest = c.pop_front.new.self.items in
    let left = c.take_new-new.new.sides.items in
    record {
      so_far = one_more_change c.sides.changes.items c.push_change.new.changes.items side front rest left
          c.args.sides.items c.take_new-new.result
          c.in-Some.ensures.items c.if-side.false c.take_new-new.ensures.taken c.take_new-new.ensures.left
          c.in_ok-push_change.ensures c.sides.invariant.so_far;
      none_else = λ none_after. c.sides.invariant.none_else
          (no_more_pairs side front rest left c.in-Some.ensures.items c.take_new-new.ensures.left none_after);
    }
