use Rattle.row_references.proofs.InPlace.{no_token}
use Rattle.row_references.proofs.fields.token_of.Goals as goal

pub returns-in-Err : goal.returns-in-Err
returns-in-Err c = no_token _ c.in-Err.ensures.cases.0
