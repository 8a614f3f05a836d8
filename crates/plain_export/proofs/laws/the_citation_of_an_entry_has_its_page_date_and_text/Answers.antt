use Rattle.std.proofs.Common.{[], refl}
use Rattle.plain_export.proofs.Standing.{data_stand, date_among, text_among}
use Rattle.plain_export.proofs.laws.the_citation_of_an_entry_has_its_page_date_and_text.Goals as goal

pub returns-clause-page : goal.returns-clause-page
returns-clause-page c = λ e xs n. ([], _, refl)

pub returns-clause-date : goal.returns-clause-date
returns-clause-date c = λ e xs n d at. (data_stand e xs n _ (date_among e d at), date_among e d at)

pub returns-clause-text : goal.returns-clause-text
returns-clause-text c = λ e xs n b bs at. (data_stand e xs n _ (text_among e b bs at), text_among e b bs at)
