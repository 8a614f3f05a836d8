use Rattle.std.proofs.Common.{ap}
use Rattle.archive_state.specs.Content.{Records}
use Rattle.html_pages.specs.Pages as pages
use Rattle.html_pages.specs.Pedigrees.{pedigree_page}
use Rattle.html_pages.proofs.laws.what_is_hidden_changes_no_page.Goals as goal

pub returns : goal.returns
returns c =
    let same = c.what_is_hidden_changes_nothing.ensures in
    record {
      person = λ a b today s t society n i j alike k l.
          ap (λ (m : Records). pages.person_page m society n) (same a b today s t i j alike k l);
      family = λ a b today s t society n i j alike k l.
          ap (λ (m : Records). pages.family_page m society n) (same a b today s t i j alike k l);
      pedigree = λ a b today s t society n generations i j alike k l.
          ap (λ (m : Records). pedigree_page m society n generations) (same a b today s t i j alike k l);
    }
