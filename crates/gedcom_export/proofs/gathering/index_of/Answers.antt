use Rattle.std.proofs.Common.{ap, ◌∙◌}
use Rattle.std.specs.FinMap.{get}
use Rattle.gedcom_export.specs.Adding.{gathered_of}
use Rattle.gedcom_export.proofs.Whole.{index_is}
use Rattle.gedcom_export.proofs.gathering.index_of.Goals as goal

pub returns-clause-shows : goal.returns-clause-shows
returns-clause-shows c = index_is c.args.state.now.records c.in_ok-index.index c.arrange.new.self
    (c.in_ok-index.ensures
    ∙ ap (gathered_of (get c.args.state.now.records)) (c.deref.ensures.value ∙ c.in_ok-numbers.ensures))
    c.in_ok-arrange.ensures

pub returns-clause-arranged : goal.returns-clause-arranged
returns-clause-arranged c = record {
  events = c.in_ok-arrange.ensures.events.ascends;
  citations = c.in_ok-arrange.ensures.citations.ascends;
  child_in = c.in_ok-arrange.ensures.child_in.ascends;
  partner_in = c.in_ok-arrange.ensures.partner_in.ascends;
}
