use Rattle.std.proofs.Common.{ap, ◌∙◌}
use Rattle.list_laws.proofs.Outcomes.{ok_more}
use Rattle.sheets.specs.Gathered.{gathered}
use Rattle.name_index.specs.Found as index
use Rattle.html_lists.specs.Listed.{Listed}
use Rattle.html_lists.specs.Searches.{found}
use Rattle.html_lists.proofs.Found.{index_finds}
use Rattle.html_lists.proofs.lists.HtmlLists.found_in.Goals as goal

pub returns : goal.returns
returns c =
    let words = c.args.words.now in
    ok_more _ _ (λ numbers e. e ∙ (ap (index.found words) c.self.invariant.1
    ∙ (index_finds (gathered c.self.inside.library.records) words
    ∙ ap (λ (l : Listed). found (gathered l.state.records) words) c.self.view_is))) c.found.result c.found.ensures
