use Rattle.std.proofs.Common.{[]}
use Rattle.sqlite.specs.Held.{state}
use Rattle.receipts.specs.Tokens.{IsToken}
use Rattle.store_tables.specs.Reading.{IsTypedReceipt, read_receipt}
use Rattle.store_tables.specs.Rows.{ReceiptRow}
use Rattle.store_tables.specs.Shown.{shown_receipt}
use Rattle.store_tables.specs.Showing.{ShowsReceipt}
use Rattle.store_tables.proofs.Calls.{if_ok}
use Rattle.store_tables.proofs.Queries.{reads_receipts}
use Rattle.store_tables.proofs.ReadingRows.{looks_all}
use Rattle.store_tables.proofs.Showing.{shows_each}
use Rattle.store_tables.proofs.Texts.{select_receipts, select_receipts_plain}
use Rattle.store_tables.proofs.reading.read_receipts.Goals as goal

pub read_all-requires-clause-plain : goal.read_all-requires-clause-plain
read_all-requires-clause-plain g c = select_receipts_plain

pub returns-clause-looks : goal.returns-clause-looks
returns-clause-looks g c =
    let old = state g.S.Store c.args.conn.now in
    let new = state g.S.Store c.read_all.new.conn in
    let did = c.read_all.ensures in
    looks_all shown_receipt read_receipt ShowsReceipt (λ (r : ReceiptRow). IsToken r.token × IsTypedReceipt r.receipt)
    (λ items. items.items) select_receipts [] old new c.read_all.result (λ rows. rows.receipts)
    (λ rows was all shown. reads_receipts old new all rows was.schema was.good.holds shown)
    (λ rows t. t.receipts) did.read did.refused did.same did.crash did.clean

pub returns-clause-shown : goal.returns-clause-shown
returns-clause-shown g c clean has_spans has =
    if_ok c.read_all.result
    (λ items. shows_each shown_receipt read_receipt ShowsReceipt select_receipts (state g.S.Store c.args.conn.now)
    (state g.S.Store c.read_all.new.conn) items.items) (c.read_all.ensures.read clean)
