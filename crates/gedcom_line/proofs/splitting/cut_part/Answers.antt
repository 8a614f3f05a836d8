use Rattle.std.proofs.Common.{sym, subst}
use Rattle.std.specs.Str.{IsCharBoundary}
use Rattle.gedcom_line.proofs.Cuts.{cut_may_be, cut_shorter}
use Rattle.gedcom_line.proofs.splitting.cut_part.Goals as goal

pub split_at-requires : goal.split_at-requires
split_at-requires c = subst (IsCharBoundary c.args.segment.now) (sym c.place.ensures)
    (cut_may_be c.args.segment.now c.utf8.segment c.requires).whole

pub returns-clause-shorter : goal.returns-clause-shorter
returns-clause-shorter c = rw (c.split_at.ensures.back, c.place.ensures)
    (cut_shorter c.args.segment.now c.utf8.segment c.requires)
