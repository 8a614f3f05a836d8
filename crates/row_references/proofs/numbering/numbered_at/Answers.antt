use Rattle.std.proofs.Common.{◌∙◌, ap, sym}
use Rattle.std.specs.Prelude.{option_map}
use Rattle.csv.specs.Records.{fields_of}
use Rattle.row_references.specs.References.{first_of, token_in}
use Rattle.row_references.proofs.InPlace.{fills_some}
use Rattle.row_references.proofs.numbering.numbered_at.Goals as goal

pub returns-in-Some-3-clause-form : goal.returns-in-Some-3-clause-form
returns-in-Some-3-clause-form g c =
    let token = rw c.in-Some-2.is at c.in_ok-token_in.ensures in
    rw c.in-Some.is (fills_some (fields_of c.in-Some.row) c.args.at c.in-Some-2.token
    (first_of c.in-Some-3.kept.answer) (option_map fields_of c.in_ok-put_first-in-Some-3.field-0)
    (sym (ap token_in c.field_at.ensures) ∙ token) c.in_ok-put_first-in-Some-3.ensures)
