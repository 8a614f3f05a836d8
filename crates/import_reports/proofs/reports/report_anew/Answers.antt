use Rattle.std.proofs.Common.{◌∙◌}
use Rattle.std.specs.Prelude.{string_bytes}
use Rattle.import_reports.proofs.Foreseen.{trial_of, untaken_of}
use Rattle.import_reports.proofs.reports.report_anew.Goals as goal

pub returns-in-Ok-clause-shows : goal.returns-in-Ok-clause-shows
returns-in-Ok-clause-shows g c honest =
    let look = c.in-Ok.ensures.makes honest in (
      look.0,
      λ held shown.
          let at = look.1 held shown in (
            at.0,
            trial_of string_bytes (g.V.View.content held) c.args.forest.now _ c.report_with.result
                (c.deref.ensures.value ∙ at.1) c.report_with.ensures.text,
          ),
    )

pub returns-in-Err-clause-shows : goal.returns-in-Err-clause-shows
returns-in-Err-clause-shows g c honest =
    let look = c.in-Err.ensures.makes honest in (
      look.0,
      λ held shown.
          let at = look.1 held shown in (
            at.0,
            untaken_of string_bytes (g.V.View.content held) c.args.forest.now c.in-Err.why c.unless_stop.result
                c.unless_stop.ensures.untaken c.unless_stop.ensures.stopped at.1,
          ),
    )
