use Rattle.std.proofs.Common.{sym, ◌∙◌, Some, None}
use Rattle.gedcom_line.proofs.Counts.{place_is}
use Rattle.gedcom_line.proofs.splitting.place.Goals as goal

pub returns-in-Some : goal.returns-in-Some
returns-in-Some c = place_is c.args.segment.now c.farthest-end.result (Some c.in-Some.at) c.farthest-end.ensures.good
    c.farthest-end.ensures.cut (sym c.in-Some.is ∙ c.last_good_cut.ensures)

pub returns-in-None : goal.returns-in-None
returns-in-None c = c.last_resort.ensures ∙ place_is c.args.segment.now c.farthest-end.result None
    c.farthest-end.ensures.good c.farthest-end.ensures.cut (sym c.in-None.is ∙ c.last_good_cut.ensures)
