use Rattle.archive_runs.proofs.Closed.{opened_stopped, told_stopped}
use Rattle.archive_runs.proofs.closing.stop_file.Goals as goal

pub returns : goal.returns
returns g c = record {
  found = λ before after told may. (
    (λ over t holds.
        c.a_stop_loses_no_database.ensures before after c.args.left c.stop.result t over
        (told_stopped before c.args.left c.stop.result c.stop.ensures told) c.stop.ensures holds may),
    opened_stopped before after c.args.left c.stop.result c.stop.ensures may,
  );
}
