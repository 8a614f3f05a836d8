use Rattle.std.proofs.Common.{◌∙◌, subst}
use Rattle.std.specs.Prelude.{string_bytes}
use Rattle.tasks.specs.Faults.{IsReported}
use Rattle.tasks.proofs.plain_exporting.export_plain.Goals as goal

pub returns-in-Ok-clause-written : goal.returns-in-Ok-clause-written
returns-in-Ok-clause-written g c = (
  string_bytes c.in-Ok.left_out,
  subst (IsReported g.F.Write.contents g.F.Device.failed c.args.faults.now c.report.new.self)
      (c.as_bytes.ensures.value ∙ c.as_str.ensures.value) c.report.ensures,
  c.in-Ok.ensures.written,
)
