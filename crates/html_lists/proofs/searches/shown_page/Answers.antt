use Rattle.std.proofs.Common.{length}
use Rattle.list_laws.proofs.Outcomes.{ok_more}
use Rattle.sheets.specs.Gathered.{gathered}
use Rattle.html_pages.proofs.Framed.{framed_is}
use Rattle.html_lists.specs.Labels.{label_word}
use Rattle.html_lists.specs.Searches.{search_parts}
use Rattle.html_lists.specs.declared.label.Label.TheVariants as label
use Rattle.html_lists.proofs.searches.shown_page.Goals as goal

pub returns : goal.returns
returns c = ok_more _ _ (λ page e. framed_is c.args.society.now c.as_str.result.now (label_word label.Search)
    c.new-main.result c.push_found.new.out (search_parts (gathered c.args.library.now.records) c.args.text.now
    c.args.page (length c.args.numbers.now) c.args.shown.now) page c.as_str.ensures c.new-main.ensures
    c.in_ok-push_found.ensures e)
    c.page_with.result c.page_with.ensures
