use Rattle.archive_runs.proofs.Idle.{begun, kept}
use Rattle.archive_runs.proofs.laws.a_run_without_a_task_loses_nothing.Goals as goal

pub returns : goal.returns
returns g c = record {
  kept = λ image after society left input written ended is finds.
      kept image after society input written ended c.a_stop_leaves_what_is_settled.ensures.second
      c.a_stop_leaves_what_is_settled.ensures.first left is finds;
  begun = λ image after society left made finds. begun image after society left made finds;
}
