use Rattle.std.proofs.Common.{ℕ, List, subst}
use Rattle.std.specs.Prelude.{Option, IfErr, IfOk}
use Rattle.expected_answers.specs.Expected.{left}
use Rattle.expected_rows.specs.Expecting.{AppliedAsExpected, EndedAsExpected}
use Rattle.expected_rows.proofs.expecting.expected_input.Goals as goal

-- what the reader of rows has to read are the bytes of the input without a byte order mark
pub returns-clause-applied : goal.returns-clause-applied
returns-clause-applied g c =
    subst (λ (known : Option (List ℕ)). IfOk c.expected_rows.result
    (λ ending. AppliedAsExpected g.S.Store g.W.Write.contents g.F.Write.contents c.args.stops (left c.args.expected)
    ending known
    (record { archive = c.args.archive.now; output = c.args.output.now; faults = c.args.faults.now })
    (record {
      archive = c.expected_rows.new.archive;
      output = c.expected_rows.new.output;
      faults = c.expected_rows.new.faults;
    })))
    c.from_reader-rows.ensures.source c.expected_rows.ensures.applied

pub returns-clause-ended : goal.returns-clause-ended
returns-clause-ended g c =
    subst (λ (known : Option (List ℕ)). IfErr c.expected_rows.result
    (λ kind. EndedAsExpected g.S.Store g.W.Write.contents g.F.Write.contents c.args.stops (left c.args.expected)
    kind known
    (record { archive = c.args.archive.now; output = c.args.output.now; faults = c.args.faults.now })
    (record {
      archive = c.expected_rows.new.archive;
      output = c.expected_rows.new.output;
      faults = c.expected_rows.new.faults;
    })))
    c.from_reader-rows.ensures.source c.expected_rows.ensures.ended
