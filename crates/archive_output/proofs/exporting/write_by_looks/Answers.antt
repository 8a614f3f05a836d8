use Rattle.std.proofs.Common.{◌≡◌, ◌∙◌, Bool, ap, subst, sym, true}
use Rattle.std.specs.Prelude.{IfErr, OnOk}
use Rattle.gedcom_export.specs.Ends.{IsWhole}
use Rattle.record_text.specs.declared.refusal.RefusalKind.TheVariants.{Storage}
use Rattle.store.specs.Standing.{asked_by, standing}
use Rattle.archive_output.specs.Exporting.{IsPart, export_text}
use Rattle.archive_output.specs.Reading.{OnOpen}
use Rattle.archive_output.proofs.Calls.{aside_stays, moved, reads_of}
use Rattle.archive_output.proofs.exporting.write_by_looks.Goals as goal

pub returns-clause-written : goal.returns-clause-written
returns-clause-written g c =
    let before = g.W.Write.contents c.args.output.now in
    let after = g.W.Write.contents c.write_looked-outcome.new.output in
    moved g.S.Store c.args.archive.now.conn c.set_aside-import.new.self.conn c.write_looked-outcome.new.archive.conn
    c.put_back.new.self.conn c.set_aside-import.ensures.conn c.put_back.ensures.conn
    (λ old new. OnOk c.write_looked-outcome.result
    (OnOpen old new (λ _ of. IsWhole before after (export_text c.args.society.now of))))
    c.write_looked-outcome.ensures.written

pub returns-clause-begun : goal.returns-clause-begun
returns-clause-begun g c =
    let before = g.W.Write.contents c.args.output.now in
    let after = g.W.Write.contents c.write_looked-outcome.new.output in
    moved g.S.Store c.args.archive.now.conn c.set_aside-import.new.self.conn c.write_looked-outcome.new.archive.conn
    c.put_back.new.self.conn c.set_aside-import.ensures.conn c.put_back.ensures.conn
    (λ old new. IfErr c.write_looked-outcome.result
    (λ kind. OnOpen old new (λ _ of. IsPart kind before after (export_text c.args.society.now of))))
    c.write_looked-outcome.ensures.begun

pub returns-clause-told : goal.returns-clause-told
returns-clause-told g c =
    subst (λ (lost : Bool). IfErr c.write_looked-outcome.result (λ kind. kind ≡ Storage → lost ≡ true))
    (sym c.put_back.ensures.lost) c.write_looked-outcome.ensures.told

pub returns-clause-reads : goal.returns-clause-reads
returns-clause-reads g c =
    let was = c.args.archive.now in
    let new = c.put_back.new.self in
    let same = c.put_back.ensures.back ∙ c.set_aside-import.ensures.aside in
    let stays = aside_stays g.S.Store was.conn c.set_aside-import.new.self.conn
    c.write_looked-outcome.new.archive.conn new.conn c.write_looked-outcome.new.archive.is_lost new.is_lost
    c.set_aside-import.ensures.conn c.put_back.ensures.conn c.put_back.ensures.lost
    c.write_looked-outcome.ensures.stays in
    reads_of g.S.Store was new
    (λ r. c.looks_are_a_call.ensures was.conn new.conn (standing r was.is_lost was.import)
    (standing r new.is_lost new.import) c.requires.kept (ap (asked_by r) same) stays)
    same stays
