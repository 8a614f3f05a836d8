use Rattle.std.proofs.Common.{ap, ◌∙◌, ℕ, List}
use Rattle.std.specs.Prelude.{option_map}
use Rattle.list_laws.proofs.Outcomes.{ok_more}
use Rattle.archive_state.specs.Content.{Content}
use Rattle.sheets.specs.Gathered.{gathered}
use Rattle.html_parts.specs.Parts.{page_bytes}
use Rattle.html_lists.specs.Listed.{Listed}
use Rattle.html_lists.specs.Searches.{found, search_in, words_in}
use Rattle.html_lists.proofs.lists.HtmlLists.search.Goals as goal

pub returns : goal.returns
returns c =
    let shown = λ (society : List ℕ) (state : Content) (numbers : List ℕ).
    option_map page_bytes (search_in society (gathered state.records) c.args.text.now c.args.page numbers) in
    let all = found (gathered c.args.self.now.state.records) (words_in c.args.text.now) in
    ok_more _ _ (λ page e. e ∙ (ap (shown c.as_str-society.result.now c.self.inside.library)
    (c.deref.ensures.value ∙ c.in_ok-numbers.ensures)
    ∙ (ap (λ (s : List ℕ). shown s c.self.inside.library all) c.as_str-society.ensures
    ∙ ap (λ (l : Listed). shown l.society l.state all) c.self.view_is))) c.found_page.result c.found_page.ensures
