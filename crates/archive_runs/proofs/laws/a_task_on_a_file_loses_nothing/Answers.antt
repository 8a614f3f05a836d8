use Rattle.archive_runs.proofs.Carried.{carries, carries_beside, refused}
use Rattle.archive_runs.proofs.laws.a_task_on_a_file_loses_nothing.Goals as goal

pub returns : goal.returns
returns g c = record {
  performed = λ image after task x y status shown left input seen unseen ended ends s is finds.
      carries _ _ _ _ _ _ x y input seen unseen status ended s is image after task
      c.requests_are_performed_on_the_archive_of_the_file.ensures
      c.an_exported_file_gives_the_same_records.ensures shown left ends finds;
  refused = λ image after task x y status left input seen unseen ended is unwritten one s as_seen finds.
      refused g.R.Read g.R.Device g.W.Write g.W.Device g.F.Write g.F.Device x y input seen unseen status ended s
      as_seen image
      after task left is unwritten one finds;
  beside = λ image after token progress x y status left input seen unseen ended ends s as_seen finds.
      carries_beside g.R.Read g.R.Device g.W.Write g.W.Device g.F.Write g.F.Device x y input seen unseen status ended s
      as_seen image after token progress c.requests_are_performed_on_the_archive_of_the_file.ensures
      c.an_exported_file_gives_the_same_records.ensures left ends finds;
}
