-- One turn more.
use Rattle.std.proofs.Common.{drop, ap, ◌∙◌, ◌+◌}
use Rattle.store_tables.specs.Rows.{with_record_row}
use Rattle.store_tables.proofs.Loops.{goes_on, item_left}
use Rattle.store_rows.specs.Writing.{with_record_rows, kind_word}
use Rattle.store_rows.proofs.writing.record_rows.put_rows.Goals as goal

pub puts-preserved : goal.puts-preserved
puts-preserved g c =
    let puts = c.args.puts.now in
    let put = c.put-item.result in
    let rest = drop (c.puts.put-index + 1) puts in
    let left = item_left puts c.puts.put-index put put c.puts-test.true c.put-item.is in (
      c.put_record.ensures.same_reference ∙ c.puts.invariant.0,
      goes_on _ _ _ _ _ (with_record_row put.number (kind_word put.«record») 0) (with_record_rows rest)
          c.puts.invariant.1 (rw c.kind_word.ensures at c.in_ok-put_record.ensures.ok) c.put_record.ensures.survives
          (λ rows. ap (λ all. with_record_rows all rows) left),
    )
