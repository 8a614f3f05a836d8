use Rattle.std.proofs.Common.{◌∙◌, inl, sym, subst}
use Rattle.csv.specs.Reading.{source_of}
use Rattle.csv.specs.Records.{fields_of}
use Rattle.csv.specs.declared.parser.State.{State}
use Rattle.request_csv.proofs.OnTheWay.{OnTheWay, all_read, at_start, one_more, row_refused, unread}
use Rattle.request_csv.proofs.Taking.{took_all, took_more}
use Rattle.request_csv.proofs.reading.add_rows.Goals as goal

pub rows-init : goal.rows-init
rows-init g c =
    let q = c.requires in
    let known = source_of g.R.Read.remaining c.args.rows.now in
    let none = c.args.read.now.items in
    record {
      ready = q.ready;
      plain = q.plain;
      config = q.config;
      flexible = q.flexible;
      way = subst (λ (s : State). OnTheWay known known s none 0) (sym q.start) (at_start known none q.none);
    }

pub rows-preserved : goal.rows-preserved
rows-preserved g c =
    let v = c.rows.invariant in
    let f = fields_of c.read_byte_record.new.row in
    let r = rw c.in-Ok-true.field-0-test at (c.in-Ok-true.ensures.reads v.plain v.ready) in
    let t = took_more g.R.Read.remaining c.rows.rows c.read_byte_record.new.self f v.way.rows v.config _ r v.way.took in
    record {
      ready = inl (c.in-Ok-true.ensures.ready v.plain);
      plain = r.3 ∙ v.plain;
      config = r.2 ∙ v.config;
      flexible = c.in-Ok-true.ensures.flexible ∙ v.flexible;
      way = one_more _ _ _ _ _ v.way f _ _ _ t c.in-Ok.ensures.added;
    }

pub returns-in-Err-add_row-clause-refused : goal.returns-in-Err-add_row-clause-refused
returns-in-Err-add_row-clause-refused g c =
    let v = c.rows.invariant in
    let f = fields_of c.read_byte_record.new.row in
    let r = rw c.in-Ok-true.field-0-test at (c.in-Ok-true.ensures.reads v.plain v.ready) in
    let t = took_more g.R.Read.remaining c.rows.rows c.read_byte_record.new.self f v.way.rows v.config _ r v.way.took in
    row_refused _ _ _ _ _ v.way f c.in-Err-add_row.why _ _ t c.in-Err-add_row.ensures.refused

pub returns-in-Ok-false-clause-read : goal.returns-in-Ok-false-clause-read
returns-in-Ok-false-clause-read g c =
    let v = c.rows.invariant in
    let f = fields_of c.read_byte_record.new.row in
    let r = rw c.in-Ok-false.field-0-test at (c.in-Ok-false.ensures.reads v.plain v.ready) in
    all_read _ _ _ _ _ v.way (took_all g.R.Read.remaining c.rows.rows c.read_byte_record.new.self f v.way.rows
    v.config _ r v.way.took)

pub returns-in-Err-clause-refused : goal.returns-in-Err-clause-refused
returns-in-Err-clause-refused g c = unread _ _ c.reading_failed.result c.from.ensures c.reading_failed.ensures
