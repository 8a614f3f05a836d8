use Rattle.staging.proofs.Cursors.{all_shallow, always}
use Rattle.staging.proofs.writing.publish_rows.Goals as goal

pub returns-clause-shallow : goal.returns-clause-shallow
returns-clause-shallow g c =
    let import = c.import.inside in
    always c.publish.result (rw (← c.import.view_is)
    (λ none. all_shallow import.batch import.changes.puts import.later import.cursor c.import.invariant.1 none))
