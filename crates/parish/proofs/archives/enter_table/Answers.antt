use Rattle.std.proofs.Common.{inl, inr, refl, ap, Err, ℕ, List}
use Rattle.sqlite_wal.specs.Files.{image_at}
use Rattle.parish.proofs.Same.{in_task, under_token}
use Rattle.parish.specs.Tables.{entering_task}
use Rattle.parish.proofs.archives.enter_table.Goals as goal

pub returns-in-Ok : goal.returns-in-Ok
returns-in-Ok g c = inr (
  c.in-Ok.ensures.given.1,
  under_token g.R.Read g.R.Device g.W.Write g.W.Device g.F.Write g.F.Device (image_at g.S.Start) _ _ _ _ _
      (λ (t : List ℕ). entering_task t c.args.source c.args.words) _ _ c.in-Ok.ensures.given.0
      (in_task g.R.Read g.R.Device g.W.Write g.W.Device g.F.Write g.F.Device (image_at g.S.Start) _ _ _ _ _
      c.entering_task-task.result _ c.entering_task-task.ensures c.do_task.ensures),
)

pub returns-in-Err : goal.returns-in-Err
returns-in-Err g c = inl (
  (_, (c.in-Err.kind, ap Err c.placeless.ensures, c.in-Err.ensures.refused), c.status_of.ensures),
  refl,
  refl,
  (tt, refl),
)
