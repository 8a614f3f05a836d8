use Rattle.std.proofs.Common.{◌≡◌, true}
use Rattle.csv.specs.Reading.{Ready, default_config, is_flexible, reader_config, reader_state, reader_trim, source_of}
use Rattle.csv.specs.declared.reader.Trim.TheVariants as trim
use Rattle.expected_answers.specs.Expected.{left}
use Rattle.archive_input.proofs.OnTheWay.{OnTheWayWith}
use Rattle.expected_rows.proofs.InOrder.{SoFar}
use Rattle.expected_rows.proofs.expecting.expected_rows.Given as goal

abbrev pub invariant-rows : goal.invariant-rows
invariant-rows g l = record {
  ready : Ready l.rows;
  plain : reader_trim l.rows ≡ trim.None;
  config : reader_config l.rows ≡ default_config;
  flexible : is_flexible l.rows ≡ true;
  way : OnTheWayWith g.S.Store (source_of g.R.Read.remaining l.fn.rows) (source_of g.R.Read.remaining l.rows)
      (reader_state l.rows)
      (g.W.Write.contents l.fn.output) (g.W.Write.contents l.output) l.fn.archive l.archive
      (SoFar g.S.Store g.W.Write.contents g.F.Write.contents l.stops l.number (left l.fn.expected) (left l.still)
      (record { archive = l.fn.archive; output = l.fn.output; faults = l.fn.faults })
      (record { archive = l.archive; output = l.output; faults = l.faults }));
}
