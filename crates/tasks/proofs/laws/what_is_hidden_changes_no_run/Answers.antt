use Rattle.tasks.proofs.Alike.{ends_alike}
use Rattle.tasks.proofs.laws.what_is_hidden_changes_no_run.Goals as goal

pub returns : goal.returns
returns g c = λ task today society content other a b v w status number shown more first second shows differ over also.
    let sheet = c.what_is_hidden_changes_no_sheet_that_is_printed.ensures in
    let export = c.what_is_hidden_changes_no_export_that_is_printed.ensures in
    ends_alike g.S.Store g.R.Read g.R.Device g.W.Write g.W.Device g.F.Write g.F.Device today society content other
    differ
    sheet.printed sheet.cut sheet.refused export.printed export.cut export.refused
    c.what_is_hidden_changes_no_room.ensures a b v w status number over also task shown more first second shows
