use Rattle.std.proofs.Common.{[], ◌∷◌, filter, bytes_eq}
use Rattle.sqlite.specs.Held.{state}
use Rattle.sqlite.specs.declared.types.Value.TheVariants.{Text}
use Rattle.receipts.specs.Tokens.{IsToken}
use Rattle.store_tables.specs.Reading.{IsTypedReceipt, read_receipt}
use Rattle.store_tables.specs.Rows.{ReceiptRow}
use Rattle.store_tables.specs.Shown.{shown_receipt}
use Rattle.store_tables.specs.Showing.{ShowsReceipt}
use Rattle.store_tables.proofs.Coded.{kept_by}
use Rattle.store_tables.proofs.KeyedQueries.{reads_receipts_at}
use Rattle.store_tables.proofs.KeyedTexts.{receipts_at, receipts_at_plain}
use Rattle.store_tables.proofs.ReadingRows.{looks_all}
use Rattle.store_tables.proofs.keyed.receipts_at.Goals as goal

pub read_all-requires-clause-plain : goal.read_all-requires-clause-plain
read_all-requires-clause-plain g c = receipts_at_plain

pub returns-clause-looks : goal.returns-clause-looks
returns-clause-looks g c =
    let old = state g.S.Store c.args.conn.now in
    let new = state g.S.Store c.read_all.new.conn in
    let did = c.read_all.ensures in
    looks_all shown_receipt read_receipt ShowsReceipt (λ (r : ReceiptRow). IsToken r.token × IsTypedReceipt r.receipt)
    (λ items. items.items) receipts_at (Text c.args.token.now ∷ []) old new c.read_all.result
    (λ rows. filter (λ (x : ReceiptRow). bytes_eq x.token c.args.token.now) rows.receipts)
    (λ rows was all shown. reads_receipts_at old new c.args.token.now all rows was.schema was.good.holds shown)
    (λ rows t. kept_by _ _ rows.receipts t.receipts)
    (rw (c.params-to_sql.ensures, c.as_str.ensures.same) at did.read)
    (rw (c.params-to_sql.ensures, c.as_str.ensures.same) at did.refused) did.same did.crash did.clean
