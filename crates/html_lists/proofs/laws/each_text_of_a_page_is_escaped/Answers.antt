use Rattle.html_pages.proofs.Leading.{of_any}
use Rattle.html_lists.specs.Home.{home_page}
use Rattle.html_lists.specs.Registers.{register_page}
use Rattle.html_lists.specs.Searches.{search_page}
use Rattle.html_lists.specs.Surnames.{surname_page}
use Rattle.html_lists.proofs.laws.each_text_of_a_page_is_escaped.Goals as goal

pub returns : goal.returns
returns c =
    let law = c.a_page_has_its_texts_outside_of_tags.ensures in
    record {
      home = λ m society. law (home_page m society);
      register = λ m society n page. of_any _ law (register_page m society n page);
      surname = λ m society of page. of_any _ law (surname_page m society of page);
      search = λ m society text page. of_any _ law (search_page m society text page);
    }
