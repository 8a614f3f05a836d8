use Rattle.std.proofs.Common.{rules, arith}
use Rattle.gedcom_line.proofs.Fronts.{turn_within, last_within}
use Rattle.gedcom_line.proofs.splitting.written_count.Goals as goal

pub overflow_add-total : goal.overflow_add-total
overflow_add-total c =
    let t = turn_within c.args.text.now c.in-Some.front.now c.mark_of-is_next_inside.result.0.now c.in-Some.after.now
    c.loop-front.rest.now c.loop-front.is_inside c.mark_of-is_next_inside.result.1 c.loop-front.total c.requires
    c.in-Some.ensures.0 c.in-Some.ensures.1 c.mark_of-is_next_inside.ensures c.loop-front.invariant.1 in
    omega (arith, t.0, t.1, c.count.ensures, c.count-in-Some.ensures)

pub overflow_add-total-in-Some : goal.overflow_add-total-in-Some
overflow_add-total-in-Some c =
    let t = turn_within c.args.text.now c.in-Some.front.now c.mark_of-is_next_inside.result.0.now c.in-Some.after.now
    c.loop-front.rest.now c.loop-front.is_inside c.mark_of-is_next_inside.result.1 c.loop-front.total c.requires
    c.in-Some.ensures.0 c.in-Some.ensures.1 c.mark_of-is_next_inside.ensures c.loop-front.invariant.1 in
    omega (arith, t.0, t.1, c.count.ensures, c.count-in-Some.ensures)

pub loop-front-preserved : goal.loop-front-preserved
loop-front-preserved c =
    let t = turn_within c.args.text.now c.in-Some.front.now c.mark_of-is_next_inside.result.0.now c.in-Some.after.now
    c.loop-front.rest.now c.loop-front.is_inside c.mark_of-is_next_inside.result.1 c.loop-front.total c.requires
    c.in-Some.ensures.0 c.in-Some.ensures.1 c.mark_of-is_next_inside.ensures c.loop-front.invariant.1 in
    (search rules, omega (arith, t.0, c.count.ensures, c.count-in-Some.ensures))

pub overflow_add-result : goal.overflow_add-result
overflow_add-result c =
    let t = last_within c.args.text.now c.loop-front.rest.now c.loop-front.is_inside c.loop-front.total c.requires
    c.in_default.ensures c.loop-front.invariant.1 in
    omega (arith, t.0, t.1, c.count-2.ensures)

pub returns : goal.returns
returns c =
    let t = last_within c.args.text.now c.loop-front.rest.now c.loop-front.is_inside c.loop-front.total c.requires
    c.in_default.ensures c.loop-front.invariant.1 in
    omega (arith, t.0, c.count-2.ensures)
