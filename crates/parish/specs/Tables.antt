-- A table that is checked or entered, as a task on an open archive has it.
use Rattle.std.specs.Prelude.{ℕ, List, option_map}
use Rattle.command_line.specs.declared.tasks.OrderName.{OrderName}
use Rattle.command_line.specs.declared.tasks.OrderName.TheVariants as named
use Rattle.command_line.specs.declared.tasks.TableWords.{TableWords}
use Rattle.page_entries.specs.declared.dates.DateOrder.{DateOrder}
use Rattle.page_entries.specs.declared.dates.DateOrder.TheVariants as order
use Rattle.parish.specs.Converting.{set_of}
use Rattle.row_references.specs.declared.words.NumberWord.{NumberWord}
use Rattle.tasks.specs.declared.task.TableForm.{TableForm}
use Rattle.tasks.specs.declared.task.Task.{Task}
use Rattle.tasks.specs.declared.task.Task.TheVariants as task

abbrev pub order_of : OrderName → DateOrder
order_of named.DayFirst = order.DayFirst
order_of named.MonthFirst = order.MonthFirst

-- how it is read
abbrev pub form_of : TableWords → TableForm
form_of words = record {
  set = option_map set_of words.set;
  order = option_map order_of words.order;
  makes = words.makes;
}

abbrev pub table_task : NumberWord → TableWords → Task
table_task source words = task.CheckTable source (form_of words)

-- under a token
abbrev pub entering_task : List ℕ → NumberWord → TableWords → Task
entering_task token source words = task.EnterTable token source (form_of words)
