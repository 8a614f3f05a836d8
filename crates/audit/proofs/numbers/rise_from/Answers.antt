use Rattle.audit.proofs.Rising.{rises_not, rises_on}
use Rattle.audit.proofs.numbers.rise_from.Goals as goal

pub returns-then-not-is_less : goal.returns-then-not-is_less
returns-then-not-is_less c = rises_not c.changes.last c.args.changes.now c.changes.change-index c.change-item.result _
    c.is_less.result c.changes-test.true c.change-item.is c.changes.invariant c.is_less.ensures c.if-not-is_less.true

pub changes-preserved : goal.changes-preserved
changes-preserved c = rises_on c.changes.last c.args.changes.now c.changes.change-index c.change-item.result _
    c.is_less.result c.changes-test.true c.change-item.is c.changes.invariant c.is_less.ensures c.if-not-is_less.false
