use Rattle.std.proofs.Common.{List}
use Rattle.request_csv.specs.Input.{Row, row_bytes}
use Rattle.archive_input.specs.Answers.{Served}
use Rattle.expected_answers.specs.Expected.{left}
use Rattle.archive_input.proofs.OnTheWay.{told_so}
use Rattle.expected_rows.specs.Expecting.{ServesExpected}
use Rattle.expected_rows.proofs.expecting.apply_as_expected.Goals.{in-Ok, in-Err}
use Rattle.expected_rows.proofs.expecting.apply_as_expected.Goals as goal

pub returns-clause-ended : goal.returns-clause-ended
returns-clause-ended g c =
    elim c.match-expected_input.branch [
      | in-Ok w ↦ rw w.result-is tt
      | in-Err w ↦ rw w.result-is (told_so g.S.Store w.in-Err.kind w.blamed.result
          (row_bytes (g.R.Read.remaining c.args.input.now)) _ _ _ _
          (λ (rows : List Row) (served : List Served). ServesExpected g.S.Store
          g.W.Write.contents g.F.Write.contents c.args.stops
          (left c.args.expected) rows served
          (record { archive = c.args.archive.now; output = c.args.output.now; faults = c.args.faults.now })
          (record {
            archive = c.expected_input.new.archive;
            output = c.expected_input.new.output;
            faults = c.expected_input.new.faults;
          })) w.blamed.ensures w.in-Err.ensures.ended)
    ]
