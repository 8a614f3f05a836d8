use Rattle.std.proofs.Common.{arith, sym, ◌∙◌}
use Rattle.staging.specs.Opened.{left_of}
use Rattle.staging.proofs.Cursors.{at_end, lines_more, rows_more, some_first, some_later}
use Rattle.staging.proofs.cursor.Cursor.has_more.Goals.{else-self-puts, then-self-puts}
use Rattle.staging.proofs.cursor.Cursor.has_more.Goals as goal
use Rattle.list_laws.proofs.Numbers.{below_is}

pub returns-then-self-puts-2 : goal.returns-then-self-puts-2
returns-then-self-puts-2 c batch =
    let ps = c.args.puts.now in
    let later = c.args.later.now in
    let cursor = c.args.self.now in
    let rest = left_of batch ps later cursor in
    let on = c.if-self-puts-2.true in
    elim c.if-self-puts.branch [
      | then-self-puts w ↦ some_first rest c.if-self-puts.value on
          (rows_more batch ps later cursor (omega (arith, w.if-self-puts.true)))
      | else-self-puts w ↦ some_first rest c.if-self-puts.value on
          (lines_more batch ps later cursor (below_is cursor.done _ (sym w.value-is ∙ on)))
    ]

pub returns-else-self-puts-2 : goal.returns-else-self-puts-2
returns-else-self-puts-2 c batch =
    let cursor = c.args.self.now in
    let off = c.if-self-puts-2.false in
    elim c.if-self-puts.branch [
      | then-self-puts w ↦ absurd (let past = at_end cursor.rows _ (sym w.value-is ∙ off) in
          omega (arith, past, w.if-self-puts.true))
      | else-self-puts w ↦ some_later batch c.args.puts.now c.args.later.now cursor c.has_later.result
          (omega (arith, w.if-self-puts.false)) (at_end cursor.done _ (sym w.value-is ∙ off)) c.has_later.ensures
    ]
