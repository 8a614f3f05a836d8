use Rattle.std.proofs.Common.{inr, refl, ap, Err, ℕ, List}
use Rattle.sqlite_wal.specs.Files.{image_at}
use Rattle.archive_files.specs.declared.left.Left.TheVariants.{Untouched}
use Rattle.parish.proofs.Same.{no_token_either, reported_under, under_token}
use Rattle.tasks.specs.declared.task.Task.TheVariants as task
use Rattle.parish.proofs.archives.take_in.Goals as goal

pub returns-in-None : goal.returns-in-None
returns-in-None g c = rw c.in-None.is (inr (
  c.in-Ok.ensures.given.1,
  under_token g.R.Read g.R.Device g.W.Write g.W.Device g.F.Write g.F.Device (image_at g.S.Start) _ _ _ _ _
      (λ (t : List ℕ). task.Import t c.args.progress) _ _ c.in-Ok.ensures.given.0 c.do_task.ensures,
))

pub returns-in-Some : goal.returns-in-Some
returns-in-Some g c = rw c.in-Some.is (inr (
  c.in-Ok.ensures.given.1,
  reported_under g.R.Read g.R.Device g.W.Write g.W.Device g.F.Write g.F.Device (image_at g.S.Start) _ _ _ _ _
      c.args.progress _ _ c.in-Ok.ensures.given.0 c.take_in_reported.ensures,
))

pub returns-in-Err : goal.returns-in-Err
returns-in-Err g c =
    no_token_either g.R.Read g.R.Device g.W.Write g.W.Device g.F.Write g.F.Device (image_at g.S.Start) _ _ _
    (Untouched c.args.start) _ _ _ c.args.progress
    (_, (c.in-Err.kind, ap Err c.placeless.ensures, c.in-Err.ensures.refused), c.status_of.ensures) refl refl
    (tt, refl)
