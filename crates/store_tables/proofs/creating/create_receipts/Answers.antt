use Rattle.std.proofs.Common.{arith}
use Rattle.store_tables.specs.Schema.{schema_4, schema_5, schema_6, receipts, slips, slip_lines}
use Rattle.store_tables.proofs.Created as creating
use Rattle.store_tables.proofs.Calls.{on_ok, builds_then}
use Rattle.store_tables.proofs.creating.create_receipts.Goals as goal

pub returns-clause-ok : goal.returns-clause-ok
returns-clause-ok g c clean =
    let step0 = c.in_ok-create_table.ensures.ok
    (omega (arith, c.create_table-2.ensures.survives.clean, c.create_table-3.ensures.survives.clean)) schema_4
    (record receipts { tree = 0 }) creating.makes_receipt in
    let step1 = c.in_ok-create_table-2.ensures.ok (omega (arith, c.create_table-3.ensures.survives.clean)) schema_5
    (record slips { tree = 0 }) creating.makes_slip in
    on_ok c.create_table-3.result (λ more. builds_then _ _ _ _ _ _ (builds_then _ _ _ _ _ _ step0 step1)
    (more schema_6 (record slip_lines { tree = 0 }) creating.makes_slip_line)) (c.create_table-3.ensures.ok clean)
