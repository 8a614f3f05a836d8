use Rattle.std.proofs.Common.{ap}
use Rattle.archive_state.specs.Content.{Records}
use Rattle.sheets.specs.Pages as pages
use Rattle.sheets.specs.Pedigrees as pedigrees
use Rattle.sheets.specs.Sheets as sheets
use Rattle.sheets.proofs.laws.what_is_hidden_changes_no_sheet.Goals as goal

pub returns : goal.returns
returns c =
    let same = c.what_is_hidden_changes_nothing.ensures in
    record {
      person = λ a b today s t n i j alike k l.
          ap (λ (m : Records). sheets.person_sheet m n) (same a b today s t i j alike k l);
      family = λ a b today s t n i j alike k l.
          ap (λ (m : Records). sheets.family_sheet m n) (same a b today s t i j alike k l);
      register = λ a b today s t n i j alike k l.
          ap (λ (m : Records). sheets.register_sheet m n) (same a b today s t i j alike k l);
      pedigree = λ a b today s t n generations i j alike k l.
          ap (λ (m : Records). pedigrees.pedigree m n generations) (same a b today s t i j alike k l);
      index = λ a b today s t i j alike k l.
          ap (λ (m : Records). pages.index_page m) (same a b today s t i j alike k l);
      surname = λ a b today s t surname i j alike k l.
          ap (λ (m : Records). pages.surname_page m surname) (same a b today s t i j alike k l);
    }
