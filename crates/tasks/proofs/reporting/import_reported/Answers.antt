use Rattle.std.proofs.Common.{◌∙◌, Ok, ap, inl, inr, refl, sym}
use Rattle.tasks.proofs.AfterReport.{reported}
use Rattle.tasks.proofs.Reported.{ends_lost, ends_unread}
use Rattle.tasks.proofs.reporting.import_reported.Goals as goal

pub returns-then-is_lost : goal.returns-then-is_lost
returns-then-is_lost g c = inr (inr (inl (record {
  unwritten = refl;
  ends = ends_lost g.S.Store g.R.Read g.R.Device g.W.Write g.W.Device g.F.Write g.F.Device c.args.token
      c.args.progress
      (record {
        archive = c.args.archive.now;
        input = c.args.input.now;
        output = c.args.output.now;
        faults = c.args.faults.now;
      })
      (record {
        archive = c.args.archive.now;
        input = c.args.input.now;
        output = c.args.output.now;
        faults = c.refused.new.faults;
      })
      c.refused.result refl refl refl (sym c.is_lost.ensures ∙ c.if-is_lost.true)
      (rw c.placeless.ensures at c.refused.ensures);
})))

pub returns-in-Err : goal.returns-in-Err
returns-in-Err g c = inr (inr (inl (record {
  unwritten = refl;
  ends = ends_unread g.S.Store g.R.Read g.R.Device g.W.Write g.W.Device g.F.Write g.F.Device c.args.token
      c.args.progress
      (record {
        archive = c.args.archive.now;
        input = c.args.input.now;
        output = c.args.output.now;
        faults = c.args.faults.now;
      })
      (record {
        archive = c.args.archive.now;
        input = c.read_file.new.input;
        output = c.args.output.now;
        faults = c.status_of_file.new.faults;
      })
      c.status_of_file.result c.text.result refl refl (sym c.is_lost.ensures ∙ c.if-is_lost.false)
      (rw c.text.ensures c.in-Err.ensures.refused) c.status_of_file.ensures;
})))

pub returns-in-Ok-write_report : goal.returns-in-Ok-write_report
returns-in-Ok-write_report g c =
    let file = c.in-Ok.ensures.read in
    let did = c.import_read-outcome.ensures in
    let report = c.in-Ok-write_report.ensures in
    rw c.is_kept-kept.ensures
    (reported g.S.Store g.R.Read g.R.Device g.W.Write g.W.Device g.F.Write g.F.Device g.P.Write g.P.Device c.args.token
    c.args.progress c.args.archive.now c.write_report.new.archive c.import_read-outcome.new.archive
    c.args.input.now c.read_file.new.input c.args.output.now c.import_read-outcome.new.output c.args.faults.now
    c.import_read-outcome.new.faults
    c.import_read-outcome.result c.status_of-status.result (sym c.is_lost.ensures ∙ c.if-is_lost.false) report.lost
    report.reads
    (did.imported _ file) (did.refused _ file) did.silent did.told (did.told_done _ file) c.in-Ok.forest
    c.args.report.now c.write_report.new.out c.status_of-status.new.faults c.say_unless.new.faults
    c.in-Ok-write_report.is_whole file report.ended (λ no. report.none (ap Ok no)) c.status_of-status.ensures
    c.say_unless.ensures.whole c.say_unless.ensures.none)

pub returns-in-Err-write_report : goal.returns-in-Err-write_report
returns-in-Err-write_report g c =
    let report = c.in-Err-write_report.ensures in
    inr (inl (record {
      kind = c.in-Err-write_report.kind;
      reports = record {
        forest = c.in-Ok.forest;
        file = c.in-Ok.ensures.read;
        ends = report.ended;
        looks = report.reads;
      };
      blamed = report.blamed;
      lost = report.lost;
      unprinted = refl;
      said = rw c.placeless-in-Err-write_report.ensures at c.refused-in-Err-write_report.ensures;
    }))
