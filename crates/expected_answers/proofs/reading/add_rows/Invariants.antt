use Rattle.std.proofs.Common.{◌≡◌, map, true}
use Rattle.csv.specs.Reading.{Ready, default_config, is_flexible, reader_config, reader_state, reader_trim, source_of}
use Rattle.csv.specs.Records.{fields_of}
use Rattle.csv.specs.declared.reader.Trim.TheVariants as trim
use Rattle.request_csv.proofs.Taking.{Took}
use Rattle.expected_answers.proofs.reading.add_rows.Given as goal

abbrev pub invariant-rows : goal.invariant-rows
invariant-rows g l = record {
  ready : Ready l.reader;
  plain : reader_trim l.reader ≡ trim.None;
  config : reader_config l.reader ≡ default_config;
  flexible : is_flexible l.reader ≡ true;
  took : Took (source_of g.R.Read.remaining l.fn.reader) (map fields_of l.rows.items) (reader_state l.reader)
      (source_of g.R.Read.remaining l.reader);
}
