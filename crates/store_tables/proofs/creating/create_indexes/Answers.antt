use Rattle.std.proofs.Common.{arith}
use Rattle.store_tables.specs.Schema.{
  schema_7,
  schema_8,
  schema_9,
  schema_10,
  schema_11,
  lines,
  receipts,
  slip_lines,
  line_by_record,
  line_by_target,
  receipt_by_token,
  slip_line_by_slip,
  line_by_text,
}
use Rattle.store_tables.proofs.Created as creating
use Rattle.store_tables.proofs.Calls.{on_ok, builds_then}
use Rattle.store_tables.proofs.creating.create_indexes.Goals as goal

pub returns-clause-ok : goal.returns-clause-ok
returns-clause-ok g c clean =
    let step0 = c.in_ok-create_index.ensures.ok
    (omega (
      arith,
      c.create_index-2.ensures.survives.clean,
      c.create_index-3.ensures.survives.clean,
      c.create_index-4.ensures.survives.clean,
      c.create_index-5.ensures.survives.clean,
    )) schema_7 3 lines
    (record line_by_record { tree = 0 }) creating.makes_line_by_record in
    let step1 = c.in_ok-create_index-2.ensures.ok
    (omega (
      arith,
      c.create_index-3.ensures.survives.clean,
      c.create_index-4.ensures.survives.clean,
      c.create_index-5.ensures.survives.clean,
    )) schema_8 3 lines (record line_by_target { tree = 0 })
    creating.makes_line_by_target in
    let step2 = c.in_ok-create_index-3.ensures.ok
    (omega (arith, c.create_index-4.ensures.survives.clean, c.create_index-5.ensures.survives.clean)) schema_9 4
    receipts (record receipt_by_token { tree = 0 }) creating.makes_receipt_by_token in
    let step3 = c.in_ok-create_index-4.ensures.ok (omega (arith, c.create_index-5.ensures.survives.clean)) schema_10 6
    slip_lines (record slip_line_by_slip { tree = 0 }) creating.makes_slip_line_by_slip in
    on_ok c.create_index-5.result
    (λ more. builds_then _ _ _ _ _ _
    (builds_then _ _ _ _ _ _ (builds_then _ _ _ _ _ _ (builds_then _ _ _ _ _ _ step0 step1) step2) step3)
    (more schema_11 3 lines (record line_by_text { tree = 0 }) creating.makes_line_by_text))
    (c.create_index-5.ensures.ok clean)
