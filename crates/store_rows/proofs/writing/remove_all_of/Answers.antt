use Rattle.std.proofs.Common.{arith, ◌∙◌}
use Rattle.store_tables.proofs.Calls.{on_ok}
use Rattle.store_rows.specs.Sought.{without_all_sought}
use Rattle.store_rows.specs.Spans.{without_all_spans}
use Rattle.store_rows.proofs.Dated.{dated_then}
use Rattle.store_rows.proofs.SpansAside.{left_has}
use Rattle.store_rows.proofs.writing.remove_all_of.Goals as goal

pub returns-clause-ok : goal.returns-clause-ok
returns-clause-ok g c clean =
    let ns = c.args.numbers.now in
    let one = c.in_ok-remove_spans.ensures.ok (omega (arith, clean, c.remove_sought.ensures.survives.clean)) in
    on_ok c.remove_sought.result
    (λ two. dated_then _ _ _ (without_all_spans ns) (without_all_sought ns)
    (λ rows has. left_has ns rows ∙ has) one two) (c.remove_sought.ensures.ok clean)
