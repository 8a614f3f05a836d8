-- One turn more.
use Rattle.std.proofs.Common.{drop, ap, ◌∙◌, ◌+◌}
use Rattle.records.specs.Stored.{stored}
use Rattle.store_tables.proofs.Loops.{item_left}
use Rattle.store_rows.specs.Links.{with_all_links, with_links}
use Rattle.store_rows.proofs.Dated.{goes_on}
use Rattle.store_rows.proofs.SpansAside.{links_has}
use Rattle.store_rows.proofs.writing.link_rows.put_links.Goals as goal

pub puts-preserved : goal.puts-preserved
puts-preserved g c =
    let puts = c.args.puts.now in
    let put = c.put-item.result in
    let rest = drop (c.puts.put-index + 1) puts in
    let left = item_left puts c.puts.put-index put put c.puts-test.true c.put-item.is in (
      c.put_links_of.ensures.same_reference ∙ c.puts.invariant.0,
      goes_on _ _ _ _ _ (with_links put.number (stored put.«record»)) (with_all_links rest) c.puts.invariant.1
          (λ rows has. links_has put.number (stored put.«record») rows ∙ has) c.in_ok-put_links_of.ensures.ok
          c.put_links_of.ensures.survives (λ rows. ap (λ all. with_all_links all rows) left),
    )
