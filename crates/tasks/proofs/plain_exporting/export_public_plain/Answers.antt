use Rattle.std.proofs.Common.{◌∙◌, ℕ, ℤ, List, subst, w32}
use Rattle.std.proofs.lemmas.Int.{to_z-of_z}
use Rattle.std.specs.Prelude.{string_bytes}
use Rattle.sqlite.specs.Held.{state}
use Rattle.archive_output.specs.Plain.{IsPartPlainPublished, IsPlainPublished}
use Rattle.archive_output.specs.Reading.{OnOpen}
use Rattle.archive_output.specs.Showing.{OfSound}
use Rattle.tasks.specs.Faults.{IsReported}
use Rattle.tasks.proofs.plain_exporting.export_public_plain.Goals as goal

pub returns-in-Ok-clause-written : goal.returns-in-Ok-clause-written
returns-in-Ok-clause-written g c =
    let old = state g.S.Store c.args.archive.now.conn in
    let new = state g.S.Store c.write_public_plain.new.archive.conn in
    let before = g.W.Write.contents c.args.output.now in
    let after = g.W.Write.contents c.write_public_plain.new.writer in
    let text = string_bytes c.in-Ok.left_out in
    let day = to_z-of_z w32 c.args.today c.ranges.today in (
      text,
      subst (IsReported g.F.Write.contents g.F.Device.failed c.args.faults.now c.report.new.self)
          (c.as_bytes.ensures.value ∙ c.as_str.ensures.value) c.report.ensures,
      subst (λ (t : ℤ). OnOpen old new (IsPlainPublished before after text t)) day c.in-Ok.ensures.written,
      subst (λ (t : ℤ). OfSound old new (λ of. (society : List ℕ) × IsPlainPublished before after text t society of))
          day c.in-Ok.ensures.sound,
    )

pub returns-in-Err-clause-begun : goal.returns-in-Err-clause-begun
returns-in-Err-clause-begun g c =
    let old = state g.S.Store c.args.archive.now.conn in
    let new = state g.S.Store c.write_public_plain.new.archive.conn in
    let before = g.W.Write.contents c.args.output.now in
    let after = g.W.Write.contents c.write_public_plain.new.writer in
    subst (λ (t : ℤ). OnOpen old new (IsPartPlainPublished c.in-Err.kind before after t))
    (to_z-of_z w32 c.args.today c.ranges.today) c.in-Err.ensures.begun
