use Rattle.std.proofs.Common.{◌∙◌, []}
use Rattle.sqlite.specs.Held.{state}
use Rattle.store_tables.proofs.Queries.{counts_receipts}
use Rattle.store_tables.proofs.Texts.{receipt_keys_plain}
use Rattle.store_tables.proofs.reading.count_receipts.Goals as goal

pub ask-requires-clause-plain : goal.ask-requires-clause-plain
ask-requires-clause-plain g c = receipt_keys_plain

pub returns-in-Ok-clause-looks : goal.returns-in-Ok-clause-looks
returns-in-Ok-clause-looks g c =
    let old = state g.S.Store c.args.conn.now in
    let new = state g.S.Store c.ask.new.conn in
    let did = c.in-Ok.ensures in
    record {
      read = λ clean rows was. c.len.ensures ∙ c.in-Ok.rows.ok.0
          ∙ counts_receipts old new _ rows was.schema was.good.holds (did.shown clean);
      same = did.same;
      refused = λ clean. tt;
      crash = did.crash;
      clean = did.clean;
    }
