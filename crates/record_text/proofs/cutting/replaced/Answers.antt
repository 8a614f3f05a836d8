use Rattle.std.proofs.Common.{rules, string_bytes, ◌∙◌}
use Rattle.record_text.specs.Words.{replaced}
use Rattle.record_text.proofs.Cuts.{turn, last_turn}
use Rattle.record_text.proofs.cutting.replaced.Goals as goal

pub loop-front-preserved : goal.loop-front-preserved
loop-front-preserved c = (
  search rules,
  rw (c.in_ok-push_str-2.ensures.bytes, c.in_ok-push_str.ensures.bytes)
      (turn c.args.mark c.args.by.now (string_bytes c.loop-front.out) c.in-Some.front.now c.in-Some.after.now
      c.loop-front.rest.now (replaced c.args.mark c.args.by.now c.args.text.now) c.in-Some.ensures.0 c.in-Some.ensures.1
      c.loop-front.invariant.1),
)

pub returns : goal.returns
returns c = c.in_ok-push_str-3.ensures.bytes ∙ last_turn c.args.mark c.args.by.now (string_bytes c.loop-front.out)
    c.loop-front.rest.now (replaced c.args.mark c.args.by.now c.args.text.now) c.in_default.ensures
    c.loop-front.invariant.1
