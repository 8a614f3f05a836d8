use Rattle.std.proofs.Common.{◌<◌, arith, length, rules}
use Rattle.conversion_reports.specs.declared.kinds.Kind.TheVariants.{Other, Joined, Stray, Replaced, Marked}
use Rattle.conversion_reports.proofs.Counting.{ended}
use Rattle.conversion_reports.proofs.tallies.tallies_of.Goals as goal

pub lines-preserved : goal.lines-preserved
lines-preserved c = record {
  other = c.in_ok-after.ensures.other _ c.lines.invariant.other;
  joined = c.in_ok-after.ensures.joined _ c.lines.invariant.joined;
  stray = c.in_ok-after.ensures.stray _ c.lines.invariant.stray;
  replaced = c.in_ok-after.ensures.replaced _ c.lines.invariant.replaced;
  marked = c.in_ok-after.ensures.marked _ c.lines.invariant.marked;
  counted = omega (arith, c.in_ok-after.ensures.number, c.in_ok-after.ensures.shorter, c.lines.invariant.counted);
}

pub returns-clause-other : goal.returns-clause-other
returns-clause-other c = let h : length c.lines.rest.now < 1 = first_of (search rules, grind arith) in
    ended Other c.args.set _ _ _ _ _ _ h c.lines.invariant.other

pub returns-clause-joined : goal.returns-clause-joined
returns-clause-joined c = let h : length c.lines.rest.now < 1 = first_of (search rules, grind arith) in
    ended Joined c.args.set _ _ _ _ _ _ h c.lines.invariant.joined

pub returns-clause-stray : goal.returns-clause-stray
returns-clause-stray c = let h : length c.lines.rest.now < 1 = first_of (search rules, grind arith) in
    ended Stray c.args.set _ _ _ _ _ _ h c.lines.invariant.stray

pub returns-clause-replaced : goal.returns-clause-replaced
returns-clause-replaced c = let h : length c.lines.rest.now < 1 = first_of (search rules, grind arith) in
    ended Replaced c.args.set _ _ _ _ _ _ h c.lines.invariant.replaced

pub returns-clause-marked : goal.returns-clause-marked
returns-clause-marked c = let h : length c.lines.rest.now < 1 = first_of (search rules, grind arith) in
    ended Marked c.args.set _ _ _ _ _ _ h c.lines.invariant.marked
