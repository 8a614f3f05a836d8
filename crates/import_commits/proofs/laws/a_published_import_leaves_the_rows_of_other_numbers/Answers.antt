use Rattle.import_commits.proofs.Others.{others_stay}
use Rattle.import_commits.proofs.laws.a_published_import_leaves_the_rows_of_other_numbers.Goals as goal

pub returns : goal.returns
returns c = others_stay c.an_import_leaves_the_rows_of_other_numbers.ensures
