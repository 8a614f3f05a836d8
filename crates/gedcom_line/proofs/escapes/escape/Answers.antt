use Rattle.std.proofs.Common.{rules, string_bytes, ◌∙◌, subst, sym}
use Rattle.std.proofs.lemmas.List.{append-nil}
use Rattle.gedcom_line.specs.Escape.{IsEscaped, escaped}
use Rattle.gedcom_line.proofs.Doubled.{turn, last_turn}
use Rattle.gedcom_line.proofs.Elements.{escaped_is}
use Rattle.gedcom_line.proofs.escapes.escape.Goals as goal

pub loop-front-preserved : goal.loop-front-preserved
loop-front-preserved c = (
  search rules,
  rw c.in_ok-put.ensures
      (turn (string_bytes c.loop-front.out) c.in-Some.front.now c.mark_of-is_next_inside.result.0.now
      c.in-Some.after.now
      c.loop-front.rest.now (escaped c.args.text.now) c.loop-front.is_inside c.mark_of-is_next_inside.result.1
      c.in-Some.ensures.0 c.in-Some.ensures.1 c.mark_of-is_next_inside.ensures c.loop-front.invariant.1),
)

pub returns-clause-written : goal.returns-clause-written
returns-clause-written c =
    let e = c.in_ok-put-2.ensures ∙ append-nil _ ∙ last_turn (string_bytes c.loop-front.out) c.loop-front.rest.now
    (escaped c.args.text.now) c.loop-front.is_inside c.in_default.ensures c.loop-front.invariant.1 in
    subst (IsEscaped c.args.text.now) (sym e) (escaped_is c.args.text.now)

pub returns-clause-exact : goal.returns-clause-exact
returns-clause-exact c = c.in_ok-put-2.ensures ∙ append-nil _ ∙ last_turn (string_bytes c.loop-front.out)
    c.loop-front.rest.now (escaped c.args.text.now) c.loop-front.is_inside c.in_default.ensures c.loop-front.invariant.1
