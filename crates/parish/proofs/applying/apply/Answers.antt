use Rattle.sqlite_wal.specs.Files.{image_at}
use Rattle.parish.proofs.Same.{in_task}
use Rattle.parish.proofs.applying.apply.Goals as goal

pub returns-in-None : goal.returns-in-None
returns-in-None g c =
    rw c.in-None.is (
    in_task g.R.Read g.R.Device g.W.Write g.W.Device g.F.Write g.F.Device (image_at g.S.Start) _ _ _ _ _
    c.apply_task-task.result _ c.apply_task-task.ensures c.do_task.ensures
    )

pub returns-in-Some : goal.returns-in-Some
returns-in-Some g c = rw c.in-Some.is c.apply_expected.ensures
