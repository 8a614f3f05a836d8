use Rattle.row_references.proofs.InPlace.{no_number_field}
use Rattle.row_references.proofs.naming.corrected_fields.Goals as goal

pub returns-in_default : goal.returns-in_default
returns-in_default c = no_number_field c.args.field.now (λ u. c.in_default.ensures.cases.0 u)
