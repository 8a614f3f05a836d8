use Rattle.std.proofs.Common.{◌<◌, length, string_bytes, arith}
use Rattle.std.proofs.lemmas.Grind.{common_steps}
use Rattle.showing.specs.Fields as fields
use Rattle.showing.proofs.Steps.{then_next}
use Rattle.showing.proofs.sources.push_holdings.Goals as goal

pub each-preserved : goal.each-preserved
each-preserved c =
    let less : c.each.holding-index < length c.args.holdings.now = grind (arith, common_steps) in
    then_next fields.holding_field c.args.holdings.now c.each.holding-index c.holding-item.result
    (string_bytes c.args.out.now) (string_bytes c.each.out) (string_bytes c.push_holding.new.out) less c.holding-item.is
    c.in_ok-push_holding.ensures c.each.invariant
