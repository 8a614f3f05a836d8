use Rattle.archive_input.proofs.Stopped.{applied_all}
use Rattle.archive_input.proofs.applying.apply.Goals as goal

pub returns-in-Ok-clause-applied : goal.returns-in-Ok-clause-applied
returns-in-Ok-clause-applied g c =
    applied_all g.S.Store g.W.Write.contents g.F.Write.contents _ _ _ c.apply_blaming.result _ c.in-Ok.is
    c.apply_blaming.ensures.applied
