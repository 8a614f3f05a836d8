use Rattle.std.proofs.Common.{◌≡◌, ◌+◌, ◌-◌, arith, ap, drop, refl, subst, take, ◌∙◌}
use Rattle.sqlite.specs.Held.{state}
use Rattle.staging.specs.Opened.{FollowsStaged, left_of}
use Rattle.staging.proofs.Cursors.{IsStaged, left_on, none_staged, one_turn}
use Rattle.staging.proofs.writing.write_rows.Goals as goal

pub rows-init : goal.rows-init
rows-init g c = record {
  same = refl;
  few = omega arith;
  placed = c.requires.placed;
  left = refl;
  way = none_staged (state g.S.Store c.args.tx.now.conn.now)
      (left_of c.args.batch c.args.puts.now c.args.later.now c.args.cursor.now);
}

pub rows-preserved : goal.rows-preserved
rows-preserved g c =
    let old = state g.S.Store c.args.tx.now.conn.now in
    let mid = state g.S.Store c.rows.tx.conn.now in
    let now = state g.S.Store c.write_some.new.tx.conn.now in
    let all = left_of c.args.batch c.args.puts.now c.args.later.now c.args.cursor.now in
    let rest = left_of c.args.batch c.args.puts.now c.args.later.now c.rows.cursor in
    let next = left_of c.args.batch c.args.puts.now c.args.later.now c.write_some.new.cursor in
    let n = c.in_ok-written.written in
    let did = c.in_ok-written.ensures in
    let k = 256 - c.rows.room in
    let on : k + n ≡ 256 - (c.rows.room - n) = omega (arith, did.few.0, did.few.1, c.rows.invariant.few) in
    record {
      same = did.same_reference ∙ c.rows.invariant.same;
      few = omega (arith, c.rows.invariant.few);
      placed = did.placed;
      left = left_on k n all rest next did.left c.rows.invariant.left ∙ ap (λ j. drop j all) on;
      way = subst (IsStaged old now all) on
          (one_turn old mid now all rest k n c.rows.invariant.left c.rows.invariant.way did.ok did.survives);
    }

pub returns-clause-ok : goal.returns-clause-ok
returns-clause-ok g c clean =
    let all = left_of c.args.batch c.args.puts.now c.args.later.now c.args.cursor.now in
    let end : 256 - c.rows.room ≡ 256 = omega (arith, c.rows-test.false) in
    let old = state g.S.Store c.args.tx.now.conn.now in
    subst (λ k. FollowsStaged old (state g.S.Store c.rows.tx.conn.now) (take k all)) end
    (c.rows.invariant.way.leads clean)

pub returns-clause-left : goal.returns-clause-left
returns-clause-left g c =
    let all = left_of c.args.batch c.args.puts.now c.args.later.now c.args.cursor.now in
    let end : 256 - c.rows.room ≡ 256 = omega (arith, c.rows-test.false) in
    c.rows.invariant.left ∙ ap (λ j. drop j all) end
