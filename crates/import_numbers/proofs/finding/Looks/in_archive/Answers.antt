use Rattle.std.proofs.Common.{sym, ◌∙◌}
use Rattle.import_numbers.proofs.finding.Looks.in_archive.Goals as goal

pub returns-in-Some-clause-finds : goal.returns-in-Some-clause-finds
returns-in-Some-clause-finds g c = λ h. (
  h,
  λ held sh. (
    sh,
    λ knows. (knows, knows c.args.path.now c.in-Some.found (sym c.known.ensures ∙ c.in-Some.is)),
  ),
)
