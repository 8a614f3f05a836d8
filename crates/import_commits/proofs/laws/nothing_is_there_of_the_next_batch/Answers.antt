use Rattle.import_commits.proofs.Imports.{fresh_from}
use Rattle.import_commits.proofs.laws.nothing_is_there_of_the_next_batch.Goals as goal

pub returns : goal.returns
returns c = fresh_from c.rows_are_owned.ensures c.nothing_of_a_new_import_is_there.ensures
    c.rows_of_closed_batches.ensures
