use Rattle.std.proofs.Common.{ap, inl}
use Rattle.gedcom_tree.specs.Text.{text}
use Rattle.archive_state.specs.Content.{Records}
use Rattle.gedcom_export.specs.Forest.{exported}
use Rattle.gedcom_export.proofs.Moving.{same_ends}
use Rattle.gedcom_export.proofs.writing.write_all.Goals as goal
use Rattle.devices.proofs.Begun.{begins_none}

pub returns-in-Ok-clause-written : goal.returns-in-Ok-clause-written
returns-in-Ok-clause-written g c = λ honest.
    let step = c.in-Ok.ensures.shows honest in (
      step.0,
      λ held shown.
          let now = step.1 held shown in
          let m : Records = (g.V.View.content held).records in (
            now.0,
            λ sound. same_ends c.write_state.result (g.W.Write.contents c.args.writer.now)
                (g.W.Write.contents c.write_state.new.writer)
                (text (exported c.in-Ok.state.records c.args.society.now)) (text (exported m c.args.society.now))
                (ap (λ (r : Records). text (exported r c.args.society.now)) now.1) c.write_state.ensures.written,
          ),
    )

pub returns-in-Err-clause-written : goal.returns-in-Err-clause-written
returns-in-Err-clause-written g c = λ honest.
    let step = c.in-Err.ensures.shows honest in (
      step.0,
      λ held shown.
          let now = step.1 held shown in (
            now.0,
            λ sound. record {
              reason = inl c.stop_of.ensures.stop;
              written = begins_none (g.W.Write.contents c.args.writer.now)
                  (text (exported (g.V.View.content held).records c.args.society.now));
            },
          ),
    )
