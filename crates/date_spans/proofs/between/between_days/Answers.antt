use Rattle.std.proofs.Common.{◌≡◌, ◌∙◌, arith, subst, take, w32, to_z, of_z}
use Rattle.std.specs.Prelude.{ℤ}
use Rattle.std.specs.FinMap.{keys}
use Rattle.std.proofs.lemmas.Int.{to_z-of_z}
use Rattle.std.proofs.lemmas.List.{take_all}
use Rattle.date_spans.specs.Between.{AreAll, IsBetween}
use Rattle.date_spans.proofs.Found.{all_found}
use Rattle.date_spans.proofs.Picked.{next_taken}
use Rattle.date_spans.proofs.between.between_days.Goals as goal

pub numbers-preserved : goal.numbers-preserved
numbers-preserved c = next_taken (IsBetween c.args.state.now.records (to_z w32 (of_z w32 c.args.first))
    (to_z w32 (of_z w32 c.args.last))) c.deref-number-items.result.now c.numbers.found.items
    c.push_if_between.new.found.items c.numbers.number-index 0 c.numbers-test.true c.numbers.invariant
    c.in_ok-push_if_between.ensures

pub returns : goal.returns
returns c =
    let all : take c.numbers.number-index c.deref-number-items.result.now ≡ keys c.args.state.now.records =
    take_all c.numbers.number-index c.deref-number-items.result.now (omega (arith, c.numbers-test.false))
    ∙ c.deref-number-items.ensures.value ∙ c.in_ok-numbers.ensures in
    subst (λ (x : ℤ). AreAll (IsBetween c.args.state.now.records x c.args.last) c.numbers.found.items)
    (to_z-of_z w32 c.args.first c.ranges.first)
    (subst (λ (x : ℤ). AreAll (IsBetween c.args.state.now.records (to_z w32 (of_z w32 c.args.first)) x)
    c.numbers.found.items) (to_z-of_z w32 c.args.last c.ranges.last)
    (all_found c.args.state.now.records (to_z w32 (of_z w32 c.args.first)) (to_z w32 (of_z w32 c.args.last))
    (take c.numbers.number-index c.deref-number-items.result.now) c.numbers.found.items all c.numbers.invariant))
