use Rattle.gedcom_tree.proofs.Streamed.{forest_shaped, forest_read, forest_refused}
use Rattle.file_faults.proofs.starts.read_forest_from.Goals as goal

pub returns-clause-forest : goal.returns-clause-forest
returns-clause-forest g c = forest_shaped c.in-Ok.ensures.fed.bytes c.finish.result
    (c.finish.ensures.finished c.in-Ok.ensures.fed.bytes c.in-Ok.ensures.fed.holds)

pub returns-clause-read : goal.returns-clause-read
returns-clause-read g c = forest_read _ c.in-Ok.ensures.fed.bytes c.finish.result c.in-Ok.ensures.fed.all
    (c.finish.ensures.finished c.in-Ok.ensures.fed.bytes c.in-Ok.ensures.fed.holds)

pub returns-clause-fault : goal.returns-clause-fault
returns-clause-fault g c = forest_refused _ _ c.in-Ok.ensures.fed.bytes c.finish.result c.in-Ok.ensures.fed.all
    (c.finish.ensures.finished c.in-Ok.ensures.fed.bytes c.in-Ok.ensures.fed.holds)
