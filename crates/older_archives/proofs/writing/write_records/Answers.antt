-- One turn more.
use Rattle.std.proofs.Common.{drop, ap, ◌∙◌, ◌+◌}
use Rattle.store_tables.proofs.Loops.{item_left}
use Rattle.older_archives.specs.Renewing.{with_record_anew, with_records_anew}
use Rattle.older_archives.proofs.Rest.{record_keeps}
use Rattle.older_archives.proofs.writing.write_records.Goals as goal
use Rattle.store_rows.proofs.Dated.{goes_on}

pub records-preserved : goal.records-preserved
records-preserved g c =
    let records = c.args.records.now in
    let item = c.record-item.result in
    let rest = drop (c.records.record-index + 1) records in
    let left = item_left records c.records.record-index item item c.records-test.true c.record-item.is in (
      c.write_record.ensures.same_reference ∙ c.records.invariant.0,
      goes_on _ _ _ _ _ (with_record_anew item) (with_records_anew rest) c.records.invariant.1
          (record_keeps item) c.in_ok-write_record.ensures.ok c.write_record.ensures.survives
          (λ rows. ap (λ all. with_records_anew all rows) left),
    )
