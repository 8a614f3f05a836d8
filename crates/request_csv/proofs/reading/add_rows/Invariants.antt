use Rattle.std.proofs.Common.{◌≡◌, true}
use Rattle.csv.specs.Reading.{Ready, default_config, is_flexible, reader_config, reader_state, reader_trim, source_of}
use Rattle.csv.specs.declared.reader.Trim.TheVariants as trim
use Rattle.request_csv.proofs.OnTheWay.{OnTheWay}
use Rattle.request_csv.proofs.reading.add_rows.Given as goal

abbrev pub invariant-rows : goal.invariant-rows
invariant-rows g l = record {
  ready : Ready l.rows;
  plain : reader_trim l.rows ≡ trim.None;
  config : reader_config l.rows ≡ default_config;
  flexible : is_flexible l.rows ≡ true;
  way : OnTheWay (source_of g.R.Read.remaining l.fn.rows) (source_of g.R.Read.remaining l.rows)
      (reader_state l.rows) l.read.items l.number;
}
