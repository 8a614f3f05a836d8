use Rattle.std.proofs.Common.{rules, string_bytes, ◌∙◌}
use Rattle.std.proofs.lemmas.List.{append-nil}
use Rattle.gedcom_line.specs.Escape.{unescaped}
use Rattle.gedcom_line.proofs.Doubled.{unturn, last_unturn}
use Rattle.gedcom_line.proofs.escapes.unescape.Goals as goal

pub loop-front-preserved : goal.loop-front-preserved
loop-front-preserved c = (
  search rules,
  rw (c.past_pair-rest.ensures, c.in_ok-put.ensures)
      (unturn (string_bytes c.loop-front.out) c.in-Some.front.now c.in-Some.after.now c.loop-front.rest.now
      (unescaped c.args.value.now) c.in-Some.ensures.0 c.in-Some.ensures.1 c.loop-front.invariant.1),
)

pub returns : goal.returns
returns c = c.in_ok-put-2.ensures ∙ append-nil _ ∙ last_unturn (string_bytes c.loop-front.out) c.loop-front.rest.now
    (unescaped c.args.value.now) c.in_default.ensures c.loop-front.invariant.1
