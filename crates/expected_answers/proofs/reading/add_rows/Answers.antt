use Rattle.std.proofs.Common.{List, inl, map, subst, sym, ◌∙◌}
use Rattle.csv.specs.Reading.{reader_state, source_of}
use Rattle.csv.specs.Records.{fields_of}
use Rattle.request_csv.specs.Input.{Row}
use Rattle.request_csv.proofs.Taking.{Took, took_all, took_more, took_none}
use Rattle.expected_answers.proofs.reading.add_rows.Goals as goal

pub rows-init : goal.rows-init
rows-init g c =
    let q = c.requires in
    record {
      ready = q.ready;
      plain = q.plain;
      config = q.config;
      flexible = q.flexible;
      took = rw (q.none, q.start) (took_none (source_of g.R.Read.remaining c.args.reader.now));
    }

pub rows-preserved : goal.rows-preserved
rows-preserved g c =
    let v = c.rows.invariant in
    let f = fields_of c.read_byte_record.new.row in
    let r = rw c.in-Ok-true.field-0-test at (c.in-Ok-true.ensures.reads v.plain v.ready) in
    let t = took_more g.R.Read.remaining c.rows.reader c.read_byte_record.new.self f (map fields_of c.rows.rows.items)
    v.config _ r v.took in
    record {
      ready = inl (c.in-Ok-true.ensures.ready v.plain);
      plain = r.3 ∙ v.plain;
      config = r.2 ∙ v.config;
      flexible = c.in-Ok-true.ensures.flexible ∙ v.flexible;
      took = subst (λ (rs : List Row). Took (source_of g.R.Read.remaining c.args.reader.now) rs
          (reader_state c.read_byte_record.new.self) (source_of g.R.Read.remaining c.read_byte_record.new.self))
          (sym c.in-Ok.ensures) t;
    }

pub returns-in-Ok-false-clause-read : goal.returns-in-Ok-false-clause-read
returns-in-Ok-false-clause-read g c =
    let v = c.rows.invariant in
    let f = fields_of c.read_byte_record.new.row in
    let r = rw c.in-Ok-false.field-0-test at (c.in-Ok-false.ensures.reads v.plain v.ready) in
    took_all g.R.Read.remaining c.rows.reader c.read_byte_record.new.self f (map fields_of c.rows.rows.items) v.config _
    r v.took
