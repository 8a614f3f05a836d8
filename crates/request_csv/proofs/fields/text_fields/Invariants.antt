use Rattle.std.proofs.Common.{◌≡◌, map, take}
use Rattle.csv.specs.Records.{AllText, fields_of}
use Rattle.request_csv.specs.Input.{first_fields}
use Rattle.request_csv.proofs.fields.text_fields.Given as goal

abbrev pub invariant-fields : goal.invariant-fields
invariant-fields l = AllText (take l.i (fields_of l.row))
    × (map (λ f. f.now) l.fields.items ≡ take l.i (first_fields (fields_of l.row)))
