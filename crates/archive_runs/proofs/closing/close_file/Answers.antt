use Rattle.archive_runs.proofs.Closed.{opened_closed, told_closed}
use Rattle.archive_runs.proofs.closing.close_file.Goals as goal

pub returns : goal.returns
returns g c = record {
  closed = c.close.ensures;
  found = λ before after told numbered may. (
    (λ over t holds.
        c.a_close_loses_no_database.ensures before after c.args.left c.close.result t over
        (told_closed before c.args.left c.close.result c.close.ensures told) c.close.ensures numbered holds may),
    opened_closed before after c.args.left c.close.result c.close.ensures numbered may,
  );
}
