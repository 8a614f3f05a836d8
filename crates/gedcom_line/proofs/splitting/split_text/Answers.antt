use Rattle.std.proofs.Common.{rules, map, sym, subst}
use Rattle.gedcom_line.specs.Split.{IsSplit, part}
use Rattle.gedcom_line.proofs.Cuts.{pieces_turn, pieces_end}
use Rattle.gedcom_line.proofs.Segments.{canonical_split}
use Rattle.gedcom_line.proofs.splitting.split_text.Goals as goal

pub loop-segment-preserved : goal.loop-segment-preserved
loop-segment-preserved c = (
  search rules,
  pieces_turn (map part c.loop-segment.out.items) (map part c.push_parts.new.out.items) c.in-Some.segment.now
      c.in-Some.after.now c.loop-segment.rest.now c.args.text.now c.in-Some.ensures.0 c.in-Some.ensures.1
      c.in_ok-push_parts.ensures c.loop-segment.invariant.1,
)

pub returns-clause-split : goal.returns-clause-split
returns-clause-split c =
    let e = pieces_end (map part c.loop-segment.out.items) (map part c.push_parts-2.new.out.items)
    c.loop-segment.rest.now c.args.text.now c.in_default.ensures c.in_ok-push_parts-2.ensures
    c.loop-segment.invariant.1 in
    subst (IsSplit c.args.text.now) (sym e) (canonical_split c.args.text.now c.utf8.text)

pub returns-clause-exact : goal.returns-clause-exact
returns-clause-exact c = pieces_end (map part c.loop-segment.out.items) (map part c.push_parts-2.new.out.items)
    c.loop-segment.rest.now c.args.text.now c.in_default.ensures c.in_ok-push_parts-2.ensures c.loop-segment.invariant.1
