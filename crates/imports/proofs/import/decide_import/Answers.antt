use Rattle.command_checks.specs.Exact.{IsExact}
use Rattle.imports.specs.Imports.{OnlyAdds}
use Rattle.imports.proofs.Commands.{made_adds, made_is_exact}
use Rattle.imports.proofs.Decided.{so_over}
use Rattle.imports.proofs.import.decide_import.Goals as goal

pub returns-clause-exact : goal.returns-clause-exact
returns-clause-exact g c =
    so_over IsExact made_is_exact g.V.View.is_honest g.V.View.shows g.V.View.content c.args.view.now c.next.new.self
    c.batch_of.new.view c.args.forest.now c.in_ok-batch.batch c.in_ok-next.next c.in_ok-changes.field-0
    c.in_ok-next.ensures.shows c.in_ok-batch.ensures.makes c.in_ok-changes.ensures

pub returns-clause-adds : goal.returns-clause-adds
returns-clause-adds g c =
    so_over OnlyAdds made_adds g.V.View.is_honest g.V.View.shows g.V.View.content c.args.view.now c.next.new.self
    c.batch_of.new.view c.args.forest.now c.in_ok-batch.batch c.in_ok-next.next c.in_ok-changes.field-0
    c.in_ok-next.ensures.shows c.in_ok-batch.ensures.makes c.in_ok-changes.ensures
