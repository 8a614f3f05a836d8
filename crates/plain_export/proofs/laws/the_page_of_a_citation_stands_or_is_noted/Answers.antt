use Rattle.plain_export.proofs.Standing.{page_stays}
use Rattle.plain_export.proofs.laws.the_page_of_a_citation_stands_or_is_noted.Goals as goal

pub returns : goal.returns
returns c = page_stays
