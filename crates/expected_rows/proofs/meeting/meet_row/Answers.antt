use Rattle.std.proofs.Common.{subst}
use Rattle.csv.specs.Records.{fields_of}
use Rattle.expected_answers.specs.Expected.{left}
use Rattle.expected_rows.specs.Meeting.{AnswersExpected}
use Rattle.expected_rows.specs.declared.meeting.Met.{Met}
use Rattle.expected_rows.proofs.Answered.{served_met}
use Rattle.expected_rows.proofs.meeting.meet_row.Goals as goal

pub returns-in-Ok-Served-clause-met : goal.returns-in-Ok-Served-clause-met
returns-in-Ok-Served-clause-met g c =
    served_met g.S.Store g.W.Write.contents g.F.Write.contents _ (fields_of c.args.row.now) (left c.args.still.now)
    (left c.answer_row.new.still)
    (record { archive = c.args.archive.now; output = c.args.output.now; faults = c.args.faults.now })
    (record {
      archive = c.answer_row.new.archive;
      output = c.answer_row.new.output;
      faults = c.tell_refused.new.faults;
    })
    c.in-Ok-Served.refused
    (subst (λ (m : Met). AnswersExpected g.S.Store (fields_of c.args.row.now) (left c.args.still.now)
    (left c.answer_row.new.still) c.args.archive.now c.answer_row.new.archive
    (g.W.Write.contents c.args.output.now) (g.W.Write.contents c.answer_row.new.output) m)
    c.in-Ok-Served.field-0-is c.in-Ok-Served.ensures.answers)
    c.tell_refused.ensures
