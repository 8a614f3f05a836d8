use Rattle.std.proofs.Common.{ap, length}
use Rattle.devices.proofs.Begun.{begins_none}
use Rattle.gedcom_tree.specs.Text.{text}
use Rattle.archive_state.specs.Content.{Records}
use Rattle.gedcom_export.specs.Forest.{exported}
use Rattle.plain_export.proofs.Failing.{not_made}
use Rattle.plain_export.proofs.Whole.{ends, one_plain}
use Rattle.plain_export.proofs.writing.export_plain.Goals as goal

pub returns-in-Ok-clause-written : goal.returns-in-Ok-clause-written
returns-in-Ok-clause-written g c = λ plain is.
    let society = c.args.society.now in
    ends c.args.state.now.records c.export_state.result (g.W.Write.contents c.args.writer.now)
    (g.W.Write.contents c.export_state.new.writer)
    (text (exported c.in-Ok.plain.records society)) (text (exported plain society))
    (ap (λ (p : Records). text (exported p society))
    (one_plain c.args.state.now.records c.in-Ok.plain.records plain c.in-Ok.ensures.made is))
    c.export_state.ensures.written

pub returns-in-Err-clause-written : goal.returns-in-Err-clause-written
returns-in-Err-clause-written g c = λ plain is.
    let whole = text (exported plain c.args.society.now) in
    record {
      reason = not_made c.args.state.now.records (length whole) c.in-Err.kind c.reason_of.result
          c.in-Err.ensures.refused c.reason_of.ensures;
      written = begins_none (g.W.Write.contents c.args.writer.now) whole;
    }
