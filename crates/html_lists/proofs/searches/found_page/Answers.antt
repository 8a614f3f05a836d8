use Rattle.std.proofs.Common.{length, List, ℕ}
use Rattle.list_laws.proofs.Outcomes.{ok_more}
use Rattle.sheets.specs.Gathered.{gathered}
use Rattle.html_parts.specs.Frame.{frame_parts}
use Rattle.html_lists.specs.Labels.{label_word}
use Rattle.html_lists.specs.Paging.{page_of}
use Rattle.html_lists.specs.Searches.{search_parts}
use Rattle.html_lists.specs.declared.label.Label.TheVariants as label
use Rattle.html_lists.proofs.Places.{no_page, that_page}
use Rattle.html_lists.proofs.searches.found_page.Goals as goal

pub returns-in-None : goal.returns-in-None
returns-in-None c =
    no_page (λ (shown : List ℕ). frame_parts c.args.society.now (label_word label.Search) (search_parts
    (gathered c.args.library.now.records) c.args.text.now c.args.page (length c.args.numbers.now) shown))
    (page_of c.args.page c.args.numbers.now) c.in-None.ensures

pub returns-in-Some : goal.returns-in-Some
returns-in-Some c =
    ok_more _ _ (λ page e. that_page (λ (shown : List ℕ). frame_parts c.args.society.now (label_word label.Search)
    (search_parts (gathered c.args.library.now.records) c.args.text.now c.args.page (length c.args.numbers.now) shown))
    (page_of c.args.page c.args.numbers.now) c.in-Some.shown.now page c.in-Some.ensures e)
    c.shown_page.result c.shown_page.ensures
