use Rattle.std.proofs.Common.{arith}
use Rattle.gedcom_line.specs.Split.{is_good_cut, may_cut}
use Rattle.gedcom_line.proofs.Counts.{long_part, greatest_skip, no_good_long, no_cut_long}
use Rattle.gedcom_line.proofs.Fronts.{less_by_half, front_shorter}
use Rattle.gedcom_line.proofs.splitting.farthest.Goals as goal

pub loop-over-init : goal.loop-over-init
loop-over-init c = (omega arith, long_part c.args.segment.now, c.excess-over.ensures)

pub overflow_sub-chars : goal.overflow_sub-chars
overflow_sub-chars c =
    let h = less_by_half c.args.segment.now c.loop-over.chars c.loop-over.over c.div_ceil-chars.result
    c.loop-over-test.true c.loop-over.invariant.2 c.div_ceil-chars.ensures c.loop-over.invariant.1 in
    omega (arith, h.1)

pub loop-over-smaller : goal.loop-over-smaller
loop-over-smaller c =
    let h = less_by_half c.args.segment.now c.loop-over.chars c.loop-over.over c.div_ceil-chars.result
    c.loop-over-test.true c.loop-over.invariant.2 c.div_ceil-chars.ensures c.loop-over.invariant.1 in
    omega (arith, h.0, h.1)

pub loop-over-preserved : goal.loop-over-preserved
loop-over-preserved c =
    let h = less_by_half c.args.segment.now c.loop-over.chars c.loop-over.over c.div_ceil-chars.result
    c.loop-over-test.true c.loop-over.invariant.2 c.div_ceil-chars.ensures c.loop-over.invariant.1 in
    (omega (arith, c.loop-over.invariant.0), h.2, c.excess-over-in-loop-over.ensures)

pub returns-clause-within : goal.returns-clause-within
returns-clause-within c = rw c.window.ensures
    (front_shorter c.args.segment.now c.loop-over.chars c.requires
    (omega (arith, c.loop-over-test.false, c.loop-over.invariant.2)))

pub returns-clause-good : goal.returns-clause-good
returns-clause-good c =
    let lt = front_shorter c.args.segment.now c.loop-over.chars c.requires
    (omega (arith, c.loop-over-test.false, c.loop-over.invariant.2)) in
    greatest_skip (is_good_cut c.args.segment.now) c.window.result _ (omega (arith, lt, c.window.ensures))
    (λ k a b. no_good_long c.args.segment.now k
    (c.loop-over.invariant.1 k (omega (arith, c.window.ensures)) (omega arith)))

pub returns-clause-cut : goal.returns-clause-cut
returns-clause-cut c =
    let lt = front_shorter c.args.segment.now c.loop-over.chars c.requires
    (omega (arith, c.loop-over-test.false, c.loop-over.invariant.2)) in
    greatest_skip (may_cut c.args.segment.now) c.window.result _ (omega (arith, lt, c.window.ensures))
    (λ k a b. no_cut_long c.args.segment.now k
    (c.loop-over.invariant.1 k (omega (arith, c.window.ensures)) (omega arith)))
