use Rattle.sound_records.proofs.Firsts.{found_at, passed_by}
use Rattle.sound_records.specs.Standing.{link_of}
use Rattle.sound_records.proofs.linked.first_in.Goals as goal

pub returns-in-Some : goal.returns-in-Some
returns-in-Some g c = found_at g.T.Linked.links_of c.args.may_miss c.args.state.now.records c.args.items.now
    c.items.item-index c.item-item.result _ (link_of c.in-Some.found) c.items-test.true c.item-item.is
    c.items.invariant c.in-Some.ensures

pub items-preserved : goal.items-preserved
items-preserved g c = passed_by g.T.Linked.links_of c.args.may_miss c.args.state.now.records c.args.items.now
    c.items.item-index c.item-item.result _ c.items-test.true c.item-item.is
    c.items.invariant c.in_default.ensures
