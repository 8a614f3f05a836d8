use Rattle.std.proofs.Common.{◌∙◌}
use Rattle.std.specs.FinMap as map
use Rattle.masking.proofs.Told.{has_next, has_whole}
use Rattle.masking.proofs.telling.told_by_all.Goals as goal

pub numbers-preserved : goal.numbers-preserved
numbers-preserved g c =
    let items = c.deref-number-items in
    has_next c.args.state.now.records (g.T.Tells.tells c.args.teller.now) c.numbers.told c.add_at.new.told
    (map.keys c.args.state.now.records) items.result.now c.numbers.number-index
    (items.ensures.value ∙ c.in_ok-numbers.ensures) c.numbers-test.true c.numbers.invariant c.in_ok-add_at.ensures

pub returns : goal.returns
returns g c =
    let items = c.deref-number-items in
    has_whole c.args.state.now.records (g.T.Tells.tells c.args.teller.now) c.numbers.told items.result.now
    c.numbers.number-index (items.ensures.value ∙ c.in_ok-numbers.ensures) c.numbers-test.false c.numbers.invariant
