use Rattle.std.proofs.Common.{arith, ◌∙◌}
use Rattle.store_tables.proofs.Calls.{on_ok}
use Rattle.store_rows.specs.Links.{with_all_links}
use Rattle.store_rows.specs.Sought.{with_all_sought}
use Rattle.store_rows.specs.Spans.{with_drawn}
use Rattle.store_rows.proofs.Dated.{dated_then}
use Rattle.store_rows.proofs.SpansAside.{all_sought_has, drawn_has}
use Rattle.store_rows.proofs.writing.put_all_of.Goals as goal

pub returns-clause-ok : goal.returns-clause-ok
returns-clause-ok g c clean =
    let puts = c.args.puts.now in
    let one = c.in_ok-put_spans.ensures.ok
    (omega (arith, clean, c.put_links.ensures.survives.clean, c.put_sought.ensures.survives.clean)) in
    let two = c.in_ok-put_sought.ensures.ok (omega (arith, clean, c.put_links.ensures.survives.clean)) in
    on_ok c.put_links.result (λ three. (
      one.0,
      one.1,
      dated_then _ _ _ (λ rows. with_all_sought puts (with_drawn one.0 rows)) (with_all_links puts)
          (λ rows has. all_sought_has puts (with_drawn one.0 rows) ∙ drawn_has one.0 rows ∙ has)
          (dated_then _ _ _ (with_drawn one.0) (with_all_sought puts) (λ rows has. drawn_has one.0 rows ∙ has) one.2
          two) three,
    )) (c.put_links.ensures.ok clean)
