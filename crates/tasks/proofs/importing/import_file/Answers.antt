use Rattle.std.proofs.Common.{inl, inr, refl}
use Rattle.list_laws.proofs.Outcomes.{keeps}
use Rattle.tasks.proofs.Reported.{widen}
use Rattle.tasks.proofs.importing.import_file.Goals as goal

pub returns-in-Ok-clause-imported : goal.returns-in-Ok-clause-imported
returns-in-Ok-clause-imported g c = c.import_read.ensures.imported _ c.in-Ok.ensures.read

pub returns-in-Ok-clause-refused : goal.returns-in-Ok-clause-refused
returns-in-Ok-clause-refused g c =
    widen c.import_read.result _ _ _ _ _ (c.import_read.ensures.refused _ c.in-Ok.ensures.read)

pub returns-in-Ok-clause-told_done : goal.returns-in-Ok-clause-told_done
returns-in-Ok-clause-told_done g c = c.import_read.ensures.told_done _ c.in-Ok.ensures.read

pub returns-in-Err-clause-refused : goal.returns-in-Err-clause-refused
returns-in-Err-clause-refused g c =
    rw c.text.ensures (inl (inr (inr (refl, c.in-Err.ensures.refused)), keeps (g.W.Write.contents c.args.output.now)))
