use Rattle.std.proofs.Common.{rules, string_bytes, ◌∙◌}
use Rattle.plain_export.specs.Allowed.{one_line}
use Rattle.plain_export.proofs.InLine.{last_turn, turn}
use Rattle.plain_export.proofs.one_line.words_in_line.Goals as goal

pub loop-front-preserved : goal.loop-front-preserved
loop-front-preserved c = (
  search rules,
  rw (c.in_ok-push_str-2.ensures.bytes, c.in_ok-push_str.ensures.bytes)
      (turn (string_bytes c.loop-front.out) c.in-Some.front.now c.in-Some.after.now c.loop-front.rest.now
      (one_line c.args.words.now) c.in-Some.ensures.0 c.in-Some.ensures.1 c.loop-front.invariant.1),
)

pub returns : goal.returns
returns c = c.in_ok-push_str-3.ensures.bytes ∙ last_turn (string_bytes c.loop-front.out) c.loop-front.rest.now
    (one_line c.args.words.now) c.in_default.ensures c.loop-front.invariant.1
