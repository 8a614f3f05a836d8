-- One turn more.
use Rattle.std.proofs.Common.{drop, ap, ◌∙◌, ◌+◌, subst, sym}
use Rattle.records.specs.Stored.{stored}
use Rattle.store_tables.specs.Rows.{with_changed_lines}
use Rattle.store_tables.proofs.Loops.{goes_on, item_left}
use Rattle.record_shapes.specs.Lists.{EachOf}
use Rattle.store_rows.specs.Shallow.{IsShallowPut}
use Rattle.store_rows.specs.Writing.{with_all_lines}
use Rattle.store_rows.proofs.writing.record_rows.put_lines.Goals as goal

pub puts-preserved : goal.puts-preserved
puts-preserved g c =
    let puts = c.args.puts.now in
    let put = c.put-item.result in
    let rest = drop (c.puts.put-index + 1) puts in
    let left = item_left puts c.puts.put-index put put c.puts-test.true c.put-item.is in (
      c.put_lines_of.ensures.same_reference ∙ c.puts.invariant.0,
      goes_on _ _ _ _ _ (with_changed_lines put.number (stored put.«record»)) (with_all_lines rest) c.puts.invariant.1
          c.in_ok-put_lines_of.ensures.ok c.put_lines_of.ensures.survives
          (λ rows. ap (λ all. with_all_lines all rows) left),
      λ all. c.puts.invariant.2 (subst (EachOf IsShallowPut) (sym left) (c.in_ok-put_lines_of.ensures.shallow, all)),
    )
