use Rattle.std.proofs.Common.{◌≡◌, ap, drop, map, sym, take, ◌∙◌}
use Rattle.sqlite.specs.Held.{state}
use Rattle.bulk_inserts.specs.Records.{with_records}
use Rattle.staged_rows.specs.Staging.{record_of, with_staged}
use Rattle.staging.specs.Opened.{new_record}
use Rattle.staging.proofs.Cursors.{follows_as, staged_records}
use Rattle.staging.proofs.writing.write_records.Goals as goal

pub returns-clause-ok : goal.returns-clause-ok
returns-clause-ok g c clean =
    let old = state g.S.Store c.args.tx.now.conn.now in
    let new = state g.S.Store c.insert_records.new.tx.conn.now in
    let batch = c.args.batch in
    let some = take c.min-number.result (drop c.args.cursor.now.rows c.args.puts.now) in
    let cut : c.split_at-2.result.0.now ≡ some = c.split_at-2.ensures.front
    ∙ ap (take c.min-number.result) c.split_at.ensures.back in
    let are = c.as_slice.ensures.value ∙ c.in_ok-records.ensures ∙ ap (map new_record) cut in
    follows_as old new (with_records batch c.as_slice.result.now) (with_staged (map (record_of batch) some))
    (λ rows. staged_records batch some rows ∙ ap (λ rs. with_records batch rs rows) (sym are))
    (c.in_ok-insert_records.ensures.ok clean)
