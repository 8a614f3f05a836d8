use Rattle.std.proofs.Common.{ap, sym, ◌∙◌}
use Rattle.archive_state.specs.Content.{Content}
use Rattle.list_laws.proofs.Outcomes.{ok_more}
use Rattle.sheets.specs.Gathered.{gathered}
use Rattle.html_pages.specs.Called.{called}
use Rattle.html_pages.proofs.Surnames.{some_called}
use Rattle.html_pages.proofs.library.HtmlLibrary.called.Goals as goal

pub returns : goal.returns
returns c = ok_more _ _ (λ found e. e
    ∙ some_called c.self.inside.shown.records c.self.inside.surnames c.args.surname.now c.self.invariant.2
    (sym c.is_empty.ensures ∙ c.if-is_empty.false)
    ∙ ap (λ (x : Content). called (gathered x.records) c.args.surname.now) c.self.view_is)
    c.persons.result c.persons.ensures
