use Rattle.request_csv.specs.Input.{row_bytes}
use Rattle.archive_input.proofs.OnTheWay.{told_so}
use Rattle.archive_input.proofs.Stopped.{UpToSoFar, ended_as, ended_so}
use Rattle.archive_input.proofs.applying.apply_blaming.Goals.{in-Ok, in-Err}
use Rattle.archive_input.proofs.applying.apply_blaming.Goals as goal

pub returns-clause-ended : goal.returns-clause-ended
returns-clause-ended g c =
    let P = UpToSoFar g.S.Store g.W.Write.contents g.F.Write.contents (row_bytes (g.R.Read.remaining c.args.input.now))
    (record { archive = c.args.archive.now; output = c.args.output.now; faults = c.args.faults.now })
    (record {
      archive = c.apply_input.new.archive;
      output = c.apply_input.new.output;
      faults = c.apply_input.new.faults;
    }) c.args.stops in
    elim c.match-apply_input.branch [
      | in-Ok w ↦ rw w.result-is tt
      | in-Err w ↦ rw w.result-is (ended_as g.S.Store g.W.Write.contents g.F.Write.contents _ _ _ c.args.stops
          w.blamed.result
          (told_so g.S.Store w.in-Err.kind w.blamed.result _ _ _ _ _ P w.blamed.ensures
          (ended_so g.S.Store g.W.Write.contents g.F.Write.contents (row_bytes (g.R.Read.remaining c.args.input.now))
          (record { archive = c.args.archive.now; output = c.args.output.now; faults = c.args.faults.now })
          (record {
            archive = c.apply_input.new.archive;
            output = c.apply_input.new.output;
            faults = c.apply_input.new.faults;
          }) c.args.stops w.in-Err.kind w.in-Err.ensures.ended)))
    ]
