use Rattle.std.proofs.Common.{rules, ◌≡◌, length}
use Rattle.sqlite.specs.Held.{state}
use Rattle.receipts.specs.Tokens.{IsToken}
use Rattle.store_tables.specs.Reading.{IsTypedReceipt, IsU32}
use Rattle.store_tables.specs.Rows.{with_receipt}
use Rattle.store_tables.proofs.Calls.{followed}
use Rattle.store_tables.proofs.Statements.{inserts_receipt}
use Rattle.store_tables.proofs.Typed.{typed_receipt}
use Rattle.store_tables.proofs.rows.insert_receipt.Goals as goal

pub returns-clause-ok : goal.returns-clause-ok
returns-clause-ok g c clean rows inside =
    let old = state g.S.Store c.args.tx.now.conn.now in
    let new = state g.S.Store c.execute.new.self.conn.now in
    let receipt = c.args.receipt.now in
    let token : IsToken c.args.token.now = search rules in
    let whole : length receipt.digest ≡ 32 = search rules in
    let first : IsU32 receipt.answer.first = search rules in
    let count : IsU32 receipt.answer.count = search rules in
    let typed : IsTypedReceipt receipt = (whole, first, count) in
    let ran = rw (
      c.params-to_sql.ensures,
      c.params-to_sql-2.ensures,
      c.params-to_sql-3.ensures,
      c.params-to_sql-4.ensures,
      c.as_str-words.ensures.same,
      c.as_slice-digest.ensures,
    ) at
    (c.in_ok-execute.ensures.runs clean inside.inside) in
    followed _ _ old new _ (with_receipt c.args.token.now receipt)
    (inserts_receipt old new c.args.token.now receipt c.in_ok-execute.field-0)
    (typed_receipt c.args.token.now receipt token typed) ran rows inside
