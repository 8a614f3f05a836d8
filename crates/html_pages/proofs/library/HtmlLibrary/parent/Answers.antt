use Rattle.std.proofs.Common.{ap, ◌∙◌}
use Rattle.archive_state.specs.Content.{Content}
use Rattle.sheets.specs.Gathered.{Gathered}
use Rattle.sheets.specs.Indexed.{indexed}
use Rattle.sheets.specs.Pedigrees.{parent}
use Rattle.html_pages.proofs.Belonging.{answered}
use Rattle.html_pages.proofs.library.HtmlLibrary.parent.Goals as goal

pub returns : goal.returns
returns c =
    let of = λ (g : Gathered). parent g c.args.partnership c.args.person in
    answered of c.args.self.now c.self.inside.shown c.self.inside.index _ c.self.view_is c.self.invariant.1
    (c.parent_of.ensures ∙ ap (λ (x : Content). of (indexed x.records c.self.inside.index)) c.as_state.ensures)
