use Rattle.std.proofs.Common.{ap, inl, inr, refl, false}
use Rattle.sqlite_wal.specs.Files.{image_at}
use Rattle.archive_files.specs.declared.left.Left.TheVariants.{Open}
use Rattle.archive_runs.proofs.Reported.{beside}
use Rattle.archive_runs.proofs.tasks_on_files.import_on_file.Goals as goal

pub returns-in-Ok-clause-reported : goal.returns-in-Ok-clause-reported
returns-in-Ok-clause-reported g c = inr (record {
  taken = c.in-Ok.archive;
  is = c.import_reported-status.new.archive;
  held = c.in-Ok.ensures.taken;
  ends = c.import_reported-status.ensures;
  back = ap Open c.into_connection.ensures;
})

pub returns-in-Ok-clause-beside : goal.returns-in-Ok-clause-beside
returns-in-Ok-clause-beside g c =
    beside g.R.Read g.R.Device g.W.Write g.W.Device g.F.Write g.F.Device g.P.Write g.P.Device (image_at g.S.Start)
    c.args.token c.args.progress _ _ c.args.report.now c.import_reported-status.new.report _ _ _
    (returns-in-Ok-clause-reported g c)

pub returns-in-Err-clause-reported : goal.returns-in-Err-clause-reported
returns-in-Err-clause-reported g c = inl (
  refl,
  refl,
  record {
    kind = c.in-Err.kind;
    unopened = c.in-Err.ensures.refused;
    unread = refl;
    unwritten = refl;
    unshown = refl;
    finishes = c.refuse_opening.ensures;
  },
)

pub returns-in-Err-clause-beside : goal.returns-in-Err-clause-beside
returns-in-Err-clause-beside g c =
    beside g.R.Read g.R.Device g.W.Write g.W.Device g.F.Write g.F.Device g.P.Write g.P.Device (image_at g.S.Start)
    c.args.token c.args.progress _ _ c.args.report.now c.args.report.now _ _ false
    (returns-in-Err-clause-reported g c)
