use Rattle.std.proofs.Common.{rules, ◌++◌, refl, map, sym, ◌∙◌}
use Rattle.gedcom_line.specs.Split.{part, marked, segment_parts}
use Rattle.gedcom_line.specs.declared.splitting.Mark.TheVariants.{Cont}
use Rattle.gedcom_line.proofs.Cuts.{push_turn, push_last}
use Rattle.gedcom_line.proofs.splitting.push_parts.Goals as goal

pub loop-rest-preserved : goal.loop-rest-preserved
loop-rest-preserved c = (
  search rules,
  push_turn c.loop-rest.out.items c.push.new.self.items (record { mark = c.loop-rest.mark; text = c.cut_part.result.0 })
      c.loop-rest.rest.now c.cut_part.result.1.now
      (map part c.args.out.now.items ++ marked Cont (segment_parts c.args.segment.now)) c.in_ok-push.ensures.items
      c.cut_part.ensures.part c.cut_part.ensures.rest c.loop-rest.invariant.0
      (sym c.is_short.ensures ∙ c.loop-rest-test.true) c.loop-rest.invariant.1,
)

pub returns : goal.returns
returns c = push_last c.loop-rest.out.items c.push-2.new.self.items
    (record { mark = c.loop-rest.mark; text = c.loop-rest.rest }) c.loop-rest.rest.now
    (map part c.args.out.now.items ++ marked Cont (segment_parts c.args.segment.now)) c.in_ok-push-2.ensures.items refl
    (sym c.is_short.ensures ∙ c.loop-rest-test.false) c.loop-rest.invariant.1
