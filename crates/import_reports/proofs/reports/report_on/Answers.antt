use Rattle.std.proofs.Common.{inl, ap, sym, ◌∙◌}
use Rattle.std.specs.Prelude.{is_some, string_bytes}
use Rattle.import_reports.proofs.Foreseen.{foreseen_of}
use Rattle.import_reports.proofs.reports.report_on.Goals as goal

pub returns-in-Some-clause-shows : goal.returns-in-Some-clause-shows
returns-in-Some-clause-shows g c honest =
    let look = c.in_ok-receipt.ensures.shows honest in (
      look.0,
      λ held shown.
          let at = look.1 held shown in (
            at.0,
            inl (ap is_some (sym at.1 ∙ c.in-Some.is)),
          ),
    )

pub returns-in-None-clause-shows : goal.returns-in-None-clause-shows
returns-in-None-clause-shows g c honest =
    let then = c.report_anew.ensures.shows honest in
    let look = c.in_ok-receipt.ensures.shows then.0 in (
      look.0,
      λ held shown.
          let at = look.1 held shown in
          let is = then.1 held at.0 in (
            is.0,
            foreseen_of string_bytes (g.V.View.content held) c.args.forest.now c.args.token.now c.report_anew.result
                (ap is_some (sym at.1 ∙ c.in-None.is)) is.1,
          ),
    )
