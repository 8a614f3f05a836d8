use Rattle.std.proofs.Common.{◌≡◌, Err, refl, rules}
use Rattle.record_text.specs.declared.refusal.RefusalKind.TheVariants.{OutOfMemory}
use Rattle.gedcom_tree.specs.Text.{line_text, trailer}
use Rattle.gedcom_export.proofs.Moving.{stops_here}
use Rattle.gedcom_export.proofs.writing.end.Goals as goal

pub returns-in_err-write_line-clause-written : goal.returns-in_err-write_line-clause-written
returns-in_err-write_line-clause-written g c =
    let same : c.from_residual.result ≡ Err OutOfMemory = search rules in
    rw same (stops_here (g.W.Write.contents c.args.writer.now) c.args.out.now (line_text trailer) OutOfMemory refl)
