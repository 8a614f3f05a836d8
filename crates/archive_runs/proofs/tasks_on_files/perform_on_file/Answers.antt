use Rattle.std.proofs.Common.{ap, inl, inr, refl}
use Rattle.archive_runs.proofs.tasks_on_files.perform_on_file.Goals as goal
use Rattle.archive_files.specs.declared.left.Left.TheVariants.{Open}

pub returns-in-Ok : goal.returns-in-Ok
returns-in-Ok g c = inr (record {
  taken = c.in-Ok.archive;
  new = c.perform_task-status.new.archive;
  held = c.in-Ok.ensures.taken;
  ends = c.perform_task-status.ensures;
  back = ap Open c.into_connection.ensures;
})

pub returns-in-Err : goal.returns-in-Err
returns-in-Err g c = inl (record {
  kind = c.in-Err.kind;
  unopened = c.in-Err.ensures.refused;
  unread = refl;
  unwritten = refl;
  unshown = refl;
  finishes = c.refuse_opening.ensures;
})
