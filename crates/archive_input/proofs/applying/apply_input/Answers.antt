use Rattle.std.proofs.Common.{ℕ, List, subst}
use Rattle.std.specs.Prelude.{Option, IfErr, IfOk}
use Rattle.archive_input.specs.Stopping.{AppliedAs, EndedAs}
use Rattle.archive_input.proofs.applying.apply_input.Goals as goal

-- what the reader of rows has to read are the bytes of the input without a byte order mark
pub returns-clause-applied : goal.returns-clause-applied
returns-clause-applied g c =
    subst (λ (known : Option (List ℕ)). IfOk c.apply_rows.result
    (λ stop. AppliedAs g.S.Store g.W.Write.contents g.F.Write.contents c.args.stops stop known
    (record { archive = c.args.archive.now; output = c.args.output.now; faults = c.args.faults.now })
    (record {
      archive = c.apply_rows.new.archive;
      output = c.apply_rows.new.output;
      faults = c.apply_rows.new.faults;
    })))
    c.from_reader-rows.ensures.source c.apply_rows.ensures.applied

pub returns-clause-ended : goal.returns-clause-ended
returns-clause-ended g c =
    subst (λ (known : Option (List ℕ)). IfErr c.apply_rows.result
    (λ kind. EndedAs g.S.Store g.W.Write.contents g.F.Write.contents c.args.stops kind known
    (record { archive = c.args.archive.now; output = c.args.output.now; faults = c.args.faults.now })
    (record {
      archive = c.apply_rows.new.archive;
      output = c.apply_rows.new.output;
      faults = c.apply_rows.new.faults;
    })))
    c.from_reader-rows.ensures.source c.apply_rows.ensures.ended
