use Rattle.std.proofs.Common.{◌≡◌, map, take}
use Rattle.csv.specs.Records.{fields_of}
use Rattle.row_references.proofs.fields.all_fields.Given as goal

abbrev pub invariant-fields : goal.invariant-fields
invariant-fields l = map (λ f. f.now) l.fields.items ≡ take l.i (fields_of l.row)
