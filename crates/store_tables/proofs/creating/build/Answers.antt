use Rattle.std.proofs.Common.{arith, ◌∙◌}
use Rattle.store_tables.proofs.Calls.{on_ok}
use Rattle.store_tables.proofs.creating.build.Goals as goal

pub returns-clause-ok : goal.returns-clause-ok
returns-clause-ok g c clean =
    let one = c.in_ok-create_records.ensures.ok
    (omega (arith, c.create_receipts.ensures.survives.clean, c.fill.ensures.survives.clean)) in
    let two = c.in_ok-create_receipts.ensures.ok (omega (arith, c.fill.ensures.survives.clean)) in
    on_ok c.fill.result (λ filled was.
    let first = one was in
    let second = two first.0 in
    let last = filled second.0 in
    (last.0, last.1 ∙ second.1 ∙ first.1)) (c.fill.ensures.ok clean)
