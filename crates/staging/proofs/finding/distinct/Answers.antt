use Rattle.std.proofs.Common.{sym, ap, ◌∙◌, get_or}
use Rattle.std.specs.Prelude.{◌==◌, ◌||◌}
use Rattle.std.proofs.lemmas.List.Folds.{list_any_more}
use Rattle.staging.proofs.Owned.{inserted}
use Rattle.staging.proofs.finding.distinct.Goals as goal

pub numbers-preserved : goal.numbers-preserved
numbers-preserved c = λ n.
    inserted _ n _ _ (c.in_ok-insert.ensures.updates.0 n)
    ∙ ap (λ b. b || (get_or c.args.numbers.now c.numbers.number-index 0 == n)) (c.numbers.invariant n)
    ∙ sym (list_any_more (λ k. k == n) c.args.numbers.now c.numbers.number-index 0 c.numbers-test.true)
