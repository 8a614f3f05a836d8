-- Rows of requests, as a task on an open archive has them.
use Rattle.std.specs.Prelude.{Bool, true, false}
use Rattle.tasks.specs.declared.task.Task.{Task}
use Rattle.tasks.specs.declared.task.Task.TheVariants as task

-- all of them, or where they stop up to the first that is refused
abbrev pub apply_task : Bool → Task
apply_task true = task.ApplyUntilRefused
apply_task false = task.Apply
