use Rattle.std.proofs.Common.{◌≡◌, Err, rules}
use Rattle.archive_state.specs.Content.{Records}
use Rattle.gedcom_export.specs.Pieces.{kind_text, kinds_text, ranks}
use Rattle.gedcom_export.proofs.Moving.{at_start, ends_between, next_text, one_further}
use Rattle.gedcom_export.proofs.writing.write_records.Goals as goal

pub ranks-init : goal.ranks-init
ranks-init g c = at_start _ _ _

pub ranks-preserved : goal.ranks-preserved
ranks-preserved g c =
    let m : Records = c.args.state.now.records in
    one_further (g.W.Write.contents c.args.writer.now) (g.W.Write.contents c.ranks.writer)
    (g.W.Write.contents c.write_kind.new.writer) c.args.out.now c.ranks.out c.write_kind.new.out
    (kinds_text m c.args.index.now ranks) _ _ _ c.ranks.invariant
    (next_text (kind_text m c.args.index.now) ranks c.ranks.rank-index _ c.ranks-test.true)
    c.in_ok-write_kind.ensures.written

pub returns-in_err-write_kind-clause-written : goal.returns-in_err-write_kind-clause-written
returns-in_err-write_kind-clause-written g c =
    let m : Records = c.args.state.now.records in
    let same : c.from_residual.result ≡ Err c.in_err-write_kind.field-0.0 = search rules in
    rw same (ends_between (g.W.Write.contents c.args.writer.now) (g.W.Write.contents c.ranks.writer)
    (g.W.Write.contents c.write_kind.new.writer) c.args.out.now c.ranks.out
    (kinds_text m c.args.index.now ranks) _ _ _ _ c.ranks.invariant
    (next_text (kind_text m c.args.index.now) ranks c.ranks.rank-index _ c.ranks-test.true)
    c.in_err-write_kind.ensures.written)
