use Rattle.import_commits.proofs.Imports.{not_seen}
use Rattle.import_commits.proofs.laws.an_import_that_is_begun_is_in_no_view.Goals as goal

pub returns : goal.returns
returns c = λ before rows i content begun fresh adds means.
    not_seen before rows i content begun fresh adds c.an_open_import_is_not_seen.ensures
    (c.numbers_of_an_import_have_no_record.ensures i.changes.puts before content adds.free means)
