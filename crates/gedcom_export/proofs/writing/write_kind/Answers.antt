use Rattle.std.proofs.Common.{◌≡◌, List, ℕ, Err, rules, sym}
use Rattle.std.specs.List.{flat_map}
use Rattle.archive_state.specs.Content.{Records}
use Rattle.gedcom_export.specs.Pieces.{text_at}
use Rattle.gedcom_export.proofs.Moving.{at_start, ends_between, next_text, one_further}
use Rattle.gedcom_export.proofs.writing.write_kind.Goals as goal

pub records-init : goal.records-init
records-init g c = at_start _ _ _

pub records-preserved : goal.records-preserved
records-preserved g c =
    let m : Records = c.args.state.now.records in
    let numbers : List ℕ = c.numbers-number-items.result.now in
    one_further (g.W.Write.contents c.args.writer.now) (g.W.Write.contents c.records.writer)
    (g.W.Write.contents c.write_record.new.writer) c.args.out.now c.records.out c.write_record.new.out
    (flat_map (text_at m c.args.index.now) numbers) _ _ _ c.records.invariant
    (next_text (text_at m c.args.index.now) numbers c.records.number-index 0 c.records-test.true)
    c.in_ok-write_record.ensures.written

pub returns-in_err-write_record-clause-written : goal.returns-in_err-write_record-clause-written
returns-in_err-write_record-clause-written g c =
    let m : Records = c.args.state.now.records in
    let numbers : List ℕ = c.numbers-number-items.result.now in
    let same : c.from_residual.result ≡ Err c.in_err-write_record.field-0.0 = search rules in
    rw (same, sym c.numbers-number-items.ensures) (ends_between (g.W.Write.contents c.args.writer.now)
    (g.W.Write.contents c.records.writer)
    (g.W.Write.contents c.write_record.new.writer) c.args.out.now c.records.out
    (flat_map (text_at m c.args.index.now) numbers) _ _ _ _ c.records.invariant
    (next_text (text_at m c.args.index.now) numbers c.records.number-index 0 c.records-test.true)
    c.in_err-write_record.ensures.written)
