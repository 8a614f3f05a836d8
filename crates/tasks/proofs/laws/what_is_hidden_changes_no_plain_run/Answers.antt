use Rattle.tasks.proofs.PlainRuns.{plain_alike}
use Rattle.tasks.proofs.laws.what_is_hidden_changes_no_plain_run.Goals as goal

pub returns : goal.returns
returns g c = plain_alike g.S.Store g.R.Read g.R.Device g.W.Write g.W.Device g.F.Write g.F.Device
    c.what_is_hidden_changes_no_plain_export_that_is_printed.ensures
