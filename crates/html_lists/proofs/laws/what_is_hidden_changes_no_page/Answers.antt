use Rattle.std.proofs.Common.{ap}
use Rattle.archive_state.specs.Content.{Records}
use Rattle.html_lists.specs.Home.{home_page}
use Rattle.html_lists.specs.Registers.{register_page}
use Rattle.html_lists.specs.Searches.{search_page}
use Rattle.html_lists.specs.Surnames.{surname_page}
use Rattle.html_lists.proofs.laws.what_is_hidden_changes_no_page.Goals as goal

pub returns : goal.returns
returns c =
    let same = c.what_is_hidden_changes_nothing.ensures in
    record {
      home = λ a b today s t society i j alike k l.
          ap (λ (m : Records). home_page m society) (same a b today s t i j alike k l);
      register = λ a b today s t society n page i j alike k l.
          ap (λ (m : Records). register_page m society n page) (same a b today s t i j alike k l);
      surname = λ a b today s t society of page i j alike k l.
          ap (λ (m : Records). surname_page m society of page) (same a b today s t i j alike k l);
      search = λ a b today s t society text page i j alike k l.
          ap (λ (m : Records). search_page m society text page) (same a b today s t i j alike k l);
    }
