use Rattle.std.proofs.Common.{arith}
use Rattle.store_tables.specs.Schema.{no_schema, schema_1, schema_2, schema_3, meta, batches, records, lines}
use Rattle.store_tables.proofs.Created as creating
use Rattle.store_tables.proofs.Calls.{on_ok, builds_then}
use Rattle.store_tables.proofs.creating.create_records.Goals as goal

pub returns-clause-ok : goal.returns-clause-ok
returns-clause-ok g c clean =
    let step0 = c.in_ok-create_table.ensures.ok
    (omega (
      arith,
      c.create_table-2.ensures.survives.clean,
      c.create_table-3.ensures.survives.clean,
      c.create_table-4.ensures.survives.clean,
    )) no_schema (record meta { tree = 0 }) creating.makes_meta in
    let step1 = c.in_ok-create_table-2.ensures.ok
    (omega (arith, c.create_table-3.ensures.survives.clean, c.create_table-4.ensures.survives.clean)) schema_1
    (record batches { tree = 0 }) creating.makes_batch in
    let step2 = c.in_ok-create_table-3.ensures.ok (omega (arith, c.create_table-4.ensures.survives.clean)) schema_2
    (record records { tree = 0 }) creating.makes_record in
    on_ok c.create_table-4.result
    (λ more. builds_then _ _ _ _ _ _ (builds_then _ _ _ _ _ _ (builds_then _ _ _ _ _ _ step0 step1) step2)
    (more schema_3 (record lines { tree = 0 }) creating.makes_line)) (c.create_table-4.ensures.ok clean)
