use Rattle.std.proofs.Common.{SFits, rules, w32}
use Rattle.std.proofs.lemmas.Int.{to_z-of_z}
use Rattle.std.specs.Prelude.{ℤ}
use Rattle.sqlite_wal.specs.Files.{image_at}
use Rattle.tasks.specs.declared.task.Task.TheVariants as task
use Rattle.parish.proofs.Same.{between, in_task, library_on, on_day}
use Rattle.parish.proofs.command.work.Goals as goal

pub returns-in-CheckTable : goal.returns-in-CheckTable
returns-in-CheckTable g c =
    rw c.in-CheckTable.is (
    in_task g.R.Read g.R.Device g.W.Write g.W.Device g.F.Write g.F.Device (image_at g.S.Start) _ _ _ _ _
    c.table_task-task.result _ c.table_task-task.ensures c.do_task.ensures
    )

pub returns-in-ExportPublic : goal.returns-in-ExportPublic
returns-in-ExportPublic g c =
    let fits : SFits w32 c.in-ExportPublic.today = search rules in
    rw c.in-ExportPublic.is (
    on_day g.R.Read g.R.Device g.W.Write g.W.Device g.F.Write g.F.Device
    (image_at g.S.Start) _ _ _ _ _ task.ExportPublic _
    c.in-ExportPublic.today (to_z-of_z w32 c.in-ExportPublic.today fits) c.do_task-in-ExportPublic.ensures
    )

pub returns-in-ExportPublicPlain : goal.returns-in-ExportPublicPlain
returns-in-ExportPublicPlain g c =
    let fits : SFits w32 c.in-ExportPublicPlain.today = search rules in
    rw c.in-ExportPublicPlain.is (
    on_day g.R.Read g.R.Device g.W.Write g.W.Device g.F.Write g.F.Device
    (image_at g.S.Start) _ _ _ _ _ task.ExportPublicPlain _
    c.in-ExportPublicPlain.today (to_z-of_z w32 c.in-ExportPublicPlain.today fits)
    c.do_task-in-ExportPublicPlain.ensures
    )

pub returns-in-Sheet : goal.returns-in-Sheet
returns-in-Sheet g c =
    let fits : SFits w32 c.in-Sheet.today = search rules in
    rw c.in-Sheet.is (
      c.sheet_of-sheet.result,
      c.sheet_of-sheet.ensures,
      on_day g.R.Read g.R.Device g.W.Write g.W.Device g.F.Write g.F.Device (image_at g.S.Start) _ _ _ _ _
          (λ (d : ℤ). task.Sheet c.sheet_of-sheet.result d) _ c.in-Sheet.today (to_z-of_z w32 c.in-Sheet.today fits)
          c.do_task-in-Sheet.ensures,
    )

pub returns-in-Serve : goal.returns-in-Serve
returns-in-Serve g c =
    let fits : SFits w32 c.in-Serve.today = search rules in
    rw c.in-Serve.is (
      c.open_room.ensures.0,
      library_on g.R.Read g.R.Device g.W.Write g.W.Device g.F.Write g.F.Device
          (image_at g.S.Start) _ _ _ _ _ _ c.in-Serve.today
          (to_z-of_z w32 c.in-Serve.today fits) c.open_room.ensures.1,
      c.open_room.ensures.2,
    )

pub returns-in-Days : goal.returns-in-Days
returns-in-Days g c =
    let fits_first : SFits w32 c.in-Days.first = search rules in
    let fits_last : SFits w32 c.in-Days.last = search rules in
    rw c.in-Days.is (
    between g.R.Read g.R.Device g.W.Write g.W.Device g.F.Write g.F.Device (image_at g.S.Start) _ _ _ _ _ c.in-Days.words
    _ c.in-Days.first _ c.in-Days.last (to_z-of_z w32 c.in-Days.first fits_first)
    (to_z-of_z w32 c.in-Days.last fits_last) c.do_task-in-Days.ensures
    )

pub returns-in-List : goal.returns-in-List
returns-in-List g c =
    rw c.in-List.is (
    in_task g.R.Read g.R.Device g.W.Write g.W.Device g.F.Write g.F.Device (image_at g.S.Start) _ _ _ _ _
    c.list_task-task.result _ c.list_task-task.ensures c.do_task-in-List.ensures
    )

pub returns-in-Find : goal.returns-in-Find
returns-in-Find g c =
    rw c.in-Find.is (
    in_task g.R.Read g.R.Device g.W.Write g.W.Device g.F.Write g.F.Device (image_at g.S.Start) _ _ _ _ _
    c.find_task-task.result _ c.find_task-task.ensures c.do_task-in-Find.ensures
    )

pub returns-in-Review : goal.returns-in-Review
returns-in-Review g c =
    rw c.in-Review.is (
    in_task g.R.Read g.R.Device g.W.Write g.W.Device g.F.Write g.F.Device (image_at g.S.Start) _ _ _ _ _
    c.review_task-task.result _ c.review_task-task.ensures c.do_task-in-Review.ensures
    )
