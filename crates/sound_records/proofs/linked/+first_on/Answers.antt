use Rattle.archive_state.specs.Links.{line_links}
use Rattle.sound_records.proofs.Firsts.{found_at, passed_by}
use Rattle.sound_records.specs.Standing.{link_of}
use Rattle.sound_records.proofs.linked.+first_on.Goals as goal

pub returns-in-Some-first_on : goal.returns-in-Some-first_on
returns-in-Some-first_on t c = found_at line_links c.args.may_miss c.args.state.now.records
    c.deref-child-items.result.now c.children.child-index c.child-item.result _ (link_of c.in-Some-first_on.found)
    c.children-test.true c.child-item.is c.children.invariant c.in-Some-first_on.ensures

pub children-preserved : goal.children-preserved
children-preserved t c = passed_by line_links c.args.may_miss c.args.state.now.records
    c.deref-child-items.result.now c.children.child-index c.child-item.result _
    c.children-test.true c.child-item.is c.children.invariant c.in_default-first_on.ensures
