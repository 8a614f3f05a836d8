use Rattle.std.proofs.Common.{◌∙◌, ap, List, ℕ}
use Rattle.std.specs.Prelude.{Some}
use Rattle.list_laws.proofs.Outcomes.{some_is}
use Rattle.sheets.specs.Gathered.{gathered}
use Rattle.html_pages.proofs.Framed.{framed_is}
use Rattle.html_lists.specs.Home.{home_parts}
use Rattle.html_lists.specs.Labels.{label_word}
use Rattle.html_lists.specs.declared.label.Label.TheVariants as label
use Rattle.html_lists.proofs.first_page.first_page.Goals as goal

pub returns : goal.returns
returns c = some_is _ _ (framed_is c.args.society.now c.as_str.result.now (label_word label.Home) c.new-main.result
    c.push_home.new.out (home_parts (gathered c.args.library.now.records) c.args.society.now) (Some c.new.result)
    c.as_str.ensures c.new-main.ensures c.in_ok-push_home.ensures
    (ap (λ (text : List ℕ). Some text) (c.new.ensures ∙ c.in_ok-text.ensures)))
