use Rattle.std.proofs.Common.{◌≡◌, ◌∙◌, length, map, ap, arith}
use Rattle.std.proofs.lemmas.List.{length-map}
use Rattle.import_definitions.specs.Steps.{at as step_in, after, then_by}
use Rattle.import_definitions.proofs.Doubled.{twice, same_map}
use Rattle.import_definitions.proofs.steps.ends_of.Goals as goal

pub loop-reach-preserved : goal.loop-reach-preserved
loop-reach-preserved c =
    let all = c.args.steps.items in
    let old = c.loop-reach.found.items in
    let n = c.loop-reach.reach in
    let e : c.in_ok-found.found.items ≡ map (then_by (step_in old)) old =
    same_map c.deref.result.now old c.in_ok-found.found.items c.deref.ensures.value c.in_ok-found.ensures in
    record {
      some = omega (arith, c.loop-reach.invariant.some);
      each = ap length e ∙ length-map old (then_by (step_in old)) ∙ c.loop-reach.invariant.each;
      steps = λ k. twice all old c.in_ok-found.found.items n c.loop-reach.invariant.steps e k
          ∙ ap (λ m. after all m k) (omega arith);
    }
