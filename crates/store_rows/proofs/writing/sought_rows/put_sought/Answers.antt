-- One turn more.
use Rattle.std.proofs.Common.{drop, ap, ◌∙◌, ◌+◌}
use Rattle.store_tables.specs.Rows.{without_sought}
use Rattle.store_tables.proofs.Loops.{item_left}
use Rattle.store_rows.specs.Sought.{sought_of, with_all_sought, with_sought_anew}
use Rattle.store_rows.proofs.Dated.{goes_on}
use Rattle.store_rows.proofs.SpansAside.{sought_has}
use Rattle.store_rows.proofs.writing.sought_rows.put_sought.Goals as goal

pub puts-preserved : goal.puts-preserved
puts-preserved g c =
    let puts = c.args.puts.now in
    let put = c.put-item.result in
    let found = sought_of put.«record» in
    let rest = drop (c.puts.put-index + 1) puts in
    let left = item_left puts c.puts.put-index put put c.puts-test.true c.put-item.is in (
      c.put_sought_of.ensures.same_reference ∙ c.puts.invariant.0,
      goes_on _ _ _ _ _ (with_sought_anew put.number found) (with_all_sought rest) c.puts.invariant.1
          (λ rows has. sought_has put.number found (without_sought put.number rows) ∙ has)
          c.in_ok-put_sought_of.ensures.ok c.put_sought_of.ensures.survives
          (λ rows. ap (λ all. with_all_sought all rows) left),
    )
