use Rattle.import_commits.proofs.Imports.{taken_out}
use Rattle.import_commits.proofs.laws.an_import_that_is_taken_out_leaves_what_was.Goals as goal

pub returns : goal.returns
returns c = λ before rows i content begun new fresh adds means.
    taken_out before rows i content begun fresh adds c.an_import_that_is_taken_out_leaves_nothing.ensures new
