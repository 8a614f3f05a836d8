use Rattle.std.proofs.Common.{◌∙◌, sym}
use Rattle.file_conversion.proofs.Plain.{pushed}
use Rattle.file_conversion.proofs.ascii.push_units.Goals as goal

pub returns-then-are_ascii_units : goal.returns-then-are_ascii_units
returns-then-are_ascii_units c = pushed c.args.set c.args.units.now _ _
    (sym c.are_ascii_units.ensures ∙ c.if-are_ascii_units.true) c.in_ok-push_ascii.ensures
